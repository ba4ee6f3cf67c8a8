-- The domain that was read has its form and a server, and there is one for each entry line. Assumes nothing.
use Rattle.std.proofs.Common.{◌≡◌, ℕ, ◌+◌, ◌<◌, Bool, true, false, cond, not, ◌&&◌, List, length, is_some, IfSome, Some, None, Ok, Err, codes, Option, Result, refl, arith}
use Rattle.std.specs.Option.{option_to_list}
use Rattle.std.specs.Str.{bytes_eq}
use Rattle.std.proofs.lemmas.List.Quantifiers.{position-Some}
use Rattle.text.specs.Bytes.{name}
use Rattle.text.specs.Cuts.{words}
use Rattle.reading.specs.declared.fault.Refusal.{Refusal}
use Rattle.reading.specs.declared.fault.Refusal.TheVariants.{Fields, BadName, Unknown, Full, NotCovered}
use Rattle.reading.specs.Reads.{wants, needs, and_then, passed_over}
use Rattle.region.specs.Tables.{DomainEntry}
use Rattle.tables.specs.HostsText.{host_named, host_place}
use Rattle.tables.proofs.Counts.{wants_ok}
use Rattle.trust.specs.Formed.{DomainFormed}
use Rattle.trust.specs.DomainText.{four_words, domain_line_in, domain_step}

-- what a line gives that was not refused
given_formed : (hosts : List (List ℕ)) (covered named served : Bool) (n : List ℕ) (place : Option ℕ) (d : DomainEntry) → name n ≡ named → ((s : ℕ) → place ≡ Some s → s < length hosts) → needs NotCovered covered (wants BadName (cond named (Some n) None) (λ x. needs BadName served (wants Unknown place (λ s. Ok (record { name = x; server = s }))))) ≡ Ok d → DomainFormed hosts d
given_formed hosts covered named served n place d h low e = record { formed = grind arith; served = grind arith }

line_formed : (hosts : List (List ℕ)) (l : List ℕ) (d : DomainEntry) → domain_line_in hosts l ≡ Ok d → DomainFormed hosts d
line_formed hosts l d e =
    let p = wants_ok Fields (four_words (words l)) _ d e in
    let w = p.0 in
    given_formed hosts (bytes_eq w.first (codes "domain") && bytes_eq w.third (codes "server")) (name w.name) (name w.server) w.name (host_place w.server hosts) d refl (λ s k. (position-Some (host_named w.server) hosts s w.name k).0) p.2

-- what a line makes of the domain so far
module _ (t : Bool) (r : Result DomainEntry Refusal) where
  abbrev pub After : Option DomainEntry → Option DomainEntry → Type 0
  After before after = cond t (Ok before) (and_then r (λ d. needs Full (not (is_some before)) (Ok (Some d)))) ≡ Ok after

formed_if : (P : DomainEntry → Type 0) (t : Bool) (r : Result DomainEntry Refusal) (before after : Option DomainEntry) → ((d : DomainEntry) → r ≡ Ok d → P d) → After t r before after → IfSome before P → IfSome after P
formed_if P true r before after f e p = let same : before ≡ after = cc in rw (← same) p
formed_if P false (Err w) before after f e p = grind arith
formed_if P false (Ok d) None after f e p = let same : Some d ≡ after = cc in rw (← same) (f d refl)
formed_if P false (Ok d) (Some x) after f e p = grind arith

grown_if : (t : Bool) (r : Result DomainEntry Refusal) (before after : Option DomainEntry) → After t r before after → length (option_to_list after) ≡ length (option_to_list before) + cond t 0 1
grown_if t r before after e = grind arith

module _ (hosts : List (List ℕ)) (before : Option DomainEntry) (l : List ℕ) (after : Option DomainEntry) where
  pub domain_formed : domain_step hosts before l ≡ Ok after → IfSome before (DomainFormed hosts) → IfSome after (DomainFormed hosts)
  domain_formed = formed_if (DomainFormed hosts) (passed_over l) (domain_line_in hosts l) before after (line_formed hosts l)

  pub domain_grows : domain_step hosts before l ≡ Ok after → length (option_to_list after) ≡ length (option_to_list before) + cond (passed_over l) 0 1
  domain_grows = grown_if (passed_over l) (domain_line_in hosts l) before after
