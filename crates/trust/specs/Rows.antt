-- What rows say, as entries of a region's tables. Assumes nothing.
use Rattle.std.specs.Option.{option_map}
use Rattle.text.specs.Kept.{name_bytes}
use Rattle.region.specs.Tables.{TrustEntry, anyone, named, DomainEntry}
use Rattle.region.specs.Tables as region
use Rattle.trust.specs.declared.words.TrustWord.{TrustWord}
use Rattle.trust.specs.declared.words.TrustWord.TheVariants.{Anyone, Named}
use Rattle.trust.specs.declared.words.TrustLine.{TrustLine}
use Rattle.trust.specs.declared.domain.Domain.{Domain}

abbrev pub trust_word : TrustWord → region.TrustWord
trust_word Anyone = anyone
trust_word (Named n) = named (name_bytes n)

abbrev pub trust_entry : TrustLine → TrustEntry
trust_entry x = record { host = trust_word x.host; user = option_map trust_word x.user }

abbrev pub domain_entry : Domain → DomainEntry
domain_entry d = record { name = name_bytes d.name; server = d.server }
