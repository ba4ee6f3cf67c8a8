-- The two lists that a trial keeps, and the ledger that they stand for.
use Rattle.std.specs.Prelude.{◌≡◌, ℕ, ◌≤◌, Bool, true, cond, ◌&&◌, List, [], ◌∷◌, ◌++◌, length, is_ok, nat_eq}
use Rattle.std.specs.List.{list_all}
use Rattle.rules.specs.Rules.{Rules}
use Rattle.layers.specs.Layers.{room, without, is_pair, is_bar, with_assumed, with_barred}
use Rattle.layers.specs.Answers.{Answer, numbered, assume_answer, withdraw_answer, bar_answer, lift_answer}
use Rattle.trial.specs.Sets.{Lists, same_pair}
use Rattle.trial.specs.Ledger.{Ledger, verdict, next}
use Rattle.trial.specs.declared.calls.Change.{Change}
use Rattle.trial.specs.declared.calls.Change.TheVariants.{Assume, Withdraw, Bar, Lift}

-- the assumed pairs and the barred privileges, as they were entered
pub record Tables : Type 0 where
  pub assumed : List (ℕ × ℕ)
  pub barred : List ℕ

-- what a change is answered by the lists
abbrev pub list_verdict : Rules → Tables → Change → Answer
list_verdict R T (Assume p g) = assume_answer R T.assumed p g
list_verdict R T (Withdraw p g) = withdraw_answer R T.assumed p g
list_verdict R T (Bar p) = bar_answer R T.barred p
list_verdict R T (Lift p) = lift_answer R T.barred p

-- the lists once a change is accepted: an entry comes last, and one that is taken out moves the later ones down
abbrev pub list_entered : Tables → Change → Tables
list_entered T (Assume p g) = record { assumed = T.assumed ++ (p, g) ∷ []; barred = T.barred }
list_entered T (Withdraw p g) = record { assumed = without (is_pair p g) T.assumed; barred = T.barred }
list_entered T (Bar p) = record { assumed = T.assumed; barred = T.barred ++ p ∷ [] }
list_entered T (Lift p) = record { assumed = T.assumed; barred = without (is_bar p) T.barred }

-- the lists after a change: a refused one alters nothing
abbrev pub list_next : Rules → Tables → Change → Tables
list_next R T c = cond (is_ok (list_verdict R T c)) (list_entered T c) T

-- the source under the two lists
abbrev pub with_tables : Rules → Tables → Rules
with_tables R T = with_barred (with_assumed R T.assumed) T.barred

-- both ends of each pair are live
abbrev pub alive : (ℕ → Bool) → List (ℕ × ℕ) → Bool
alive live ps = list_all (λ x. live x.0 && live x.1) ps

-- the lists stand for the ledger: the same members, each once, no more pairs than there is room for, and all of them live
pub record Stands (R : Rules) (T : Tables) (l : Ledger) : Type 0 where
  pub pairs : Lists same_pair T.assumed l.assumed
  pub bars : Lists nat_eq T.barred l.barred
  pub within_room : length T.assumed ≤ room R
  pub all_live : alive R.live T.assumed ≡ true

-- a change agrees with every ledger that the lists stand for: the same acceptance or number, and afterwards they stand for the next ledger
abbrev pub Carries : Rules → Tables → Tables → Change → Answer → Type 0
Carries R T₀ T c r = (l : Ledger) → Stands R T₀ l → (numbered r ≡ verdict R l c) × Stands R T (next R l c)
