-- The accounts that a table holds are sound. Assumes nothing.
use Rattle.std.proofs.Common.{◌≡◌, ℕ, ◌+◌, ◌<◌, false, not, List, [], ◌∷◌, ◌++◌, length, is_some, Ok}
use Rattle.std.proofs.lemmas.Slice.Eq.{bytes_eq-Decides}
use Rattle.region.specs.Tables.{AccountEntry}
use Rattle.region.specs.Sound.{AccountFormed, AccountsSound}
use Rattle.tables.specs.declared.accounts.Accounts.{Accounts}
use Rattle.tables.specs.PasswdText.{account_named, account_place, accounts_of, account_in, account_step}
use Rattle.tables.proofs.Counts.{row_grown}
use Rattle.tables.proofs.Pushes.{each_push, distinct_push, not_placed, few_push}

-- what a table holds is sound
pub accounts_sound : (t : Accounts) → AccountsSound (accounts_of t)
accounts_sound t = t.sound

pub accounts_push : (xs : List AccountEntry) (a : AccountEntry) → AccountsSound xs → AccountFormed a → is_some (account_place a.name xs) ≡ false → length xs < 16 → AccountsSound (xs ++ a ∷ [])
accounts_push xs a s f u h = record {
  few = few_push 16 xs a h;
  formed = each_push AccountFormed xs a s.formed f;
  names = distinct_push (λ x. x.name) xs a s.names (account_named a.name) (λ i y e t. not_placed (account_named a.name) xs i y e t u) (λ y. (bytes_eq-Decides y.name a.name).1);
}

pub account_grows : (rows : List AccountEntry) (l : List ℕ) (ys : List AccountEntry) → account_step rows l ≡ Ok ys → length ys ≡ length rows + 1
account_grows rows l ys = row_grown (account_in l) (λ a. not (is_some (account_place a.name rows))) 16 rows ys
