-- The names that a table of hosts holds are sound. Assumes nothing.
use Rattle.std.proofs.Common.{◌≡◌, ℕ, ◌+◌, ◌<◌, Bool, true, false, cond, not, List, [], ◌∷◌, ◌++◌, length, is_some, Ok, arith}
use Rattle.std.proofs.lemmas.Slice.Eq.{bytes_eq-Decides}
use Rattle.reading.specs.Reads.{and_then, passed_over}
use Rattle.region.specs.Sound.{OwnName}
use Rattle.tables.specs.Rows.{HostNamesSound}
use Rattle.tables.specs.HostsText.{host_named, host_place, hosts_of, host_in, with_host, host_step}
use Rattle.tables.specs.declared.hosts.HostNames.{HostNames}
use Rattle.tables.proofs.Counts.{row_grown}
use Rattle.tables.proofs.Pushes.{each_push, distinct_push, not_placed, few_push}

-- what a table holds is sound
pub hosts_sound : (t : HostNames) → HostNamesSound (hosts_of t)
hosts_sound t = t.sound

pub hosts_push : (xs : List (List ℕ)) (h : List ℕ) → HostNamesSound xs → OwnName h → is_some (host_place h xs) ≡ false → length xs < 8 → HostNamesSound (xs ++ h ∷ [])
hosts_push xs h s f u k = record {
  few = few_push 8 xs h k;
  formed = each_push OwnName xs h s.formed f;
  names = distinct_push (λ n. n) xs h s.names (host_named h) (λ i y e t. not_placed (host_named h) xs i y e t u) (λ y. (bytes_eq-Decides y h).1);
}

grown_if : (rows : List (List ℕ)) (l : List ℕ) (ys : List (List ℕ)) (t : Bool) → cond t (Ok rows) (and_then (host_in l) (λ h. with_host rows h)) ≡ Ok ys → length ys ≡ length rows + cond t 0 1
grown_if rows l ys true e = grind arith
grown_if rows l ys false e = row_grown (host_in l) (λ h. not (is_some (host_place h rows))) 8 rows ys e

pub host_grows : (rows : List (List ℕ)) (l : List ℕ) (ys : List (List ℕ)) → host_step rows l ≡ Ok ys → length ys ≡ length rows + cond (passed_over l) 0 1
host_grows rows l ys = grown_if rows l ys (passed_over l)
