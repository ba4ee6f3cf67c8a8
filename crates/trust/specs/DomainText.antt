-- What a yp.conf says. Assumes nothing.
use Rattle.std.specs.Prelude.{ℕ, cond, not, ◌&&◌, List, [], ◌∷◌, is_some, Some, None, Ok, codes, Option, Result}
use Rattle.std.specs.Option.{option_map}
use Rattle.std.specs.Str.{bytes_eq}
use Rattle.text.specs.Bytes.{name}
use Rattle.text.specs.Cuts.{words}
use Rattle.text.specs.Kept.{name_in}
use Rattle.region.specs.Tables.{DomainEntry}
use Rattle.reading.specs.declared.fault.LineFault.{LineFault}
use Rattle.reading.specs.declared.fault.Refusal.{Refusal}
use Rattle.reading.specs.declared.fault.Refusal.TheVariants.{Fields, BadName, Unknown, Full, NotCovered}
use Rattle.reading.specs.Reads.{wants, needs, and_then, passed_over, read_text}
use Rattle.tables.specs.HostsText.{host_place}
use Rattle.trust.specs.declared.domain.Domain.{Domain}
use Rattle.trust.specs.declared.domain.Words.{Words}
use Rattle.trust.specs.Rows.{domain_entry}

-- the domain that was read, if any
abbrev pub domain_of : Option Domain → Option DomainEntry
domain_of d = option_map domain_entry d

-- the words of a line
pub record DomainWords : Type 0 where
  pub first : List ℕ
  pub name : List ℕ
  pub third : List ℕ
  pub server : List ℕ

abbrev pub domain_words : Words → DomainWords
domain_words w = record { first = w.first.now; name = w.name.now; third = w.third.now; server = w.server.now }

-- four words
abbrev pub four_words : List (List ℕ) → Option DomainWords
four_words [] = None
four_words (a ∷ []) = None
four_words (a ∷ (b ∷ [])) = None
four_words (a ∷ (b ∷ (c ∷ []))) = None
four_words (a ∷ (b ∷ (c ∷ (d ∷ [])))) = Some (record { first = a; name = b; third = c; server = d })
four_words (a ∷ (b ∷ (c ∷ (d ∷ (e ∷ es))))) = None

-- the domain that a line gives, with a server among the hosts
abbrev pub domain_line_in : List (List ℕ) → List ℕ → Result DomainEntry Refusal
domain_line_in hosts l =
    wants Fields (four_words (words l)) (λ w.
    needs NotCovered (bytes_eq w.first (codes "domain") && bytes_eq w.third (codes "server"))
    (wants BadName (name_in w.name) (λ d.
    needs BadName (name w.server)
    (wants Unknown (host_place w.server hosts) (λ s.
    Ok (record { name = d; server = s }))))))

-- the domain after a line
abbrev pub domain_step : List (List ℕ) → Option DomainEntry → List ℕ → Result (Option DomainEntry) Refusal
domain_step hosts found l =
    cond (passed_over l) (Ok found)
    (and_then (domain_line_in hosts l) (λ d.
    needs Full (not (is_some found)) (Ok (Some d))))

-- the domain that a text gives, if any, or its first bad line
abbrev pub domain_in : List (List ℕ) → List ℕ → Result (Option DomainEntry) LineFault
domain_in hosts bs = read_text (domain_step hosts) None bs
