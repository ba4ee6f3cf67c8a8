-- One host called hub: from the bytes of its texts to the slots of its privileges; and what every question comes to whose target is held, or that holds nothing. Assumes nothing.
use Rattle.std.specs.Prelude.{◌≡◌, ℕ, Bool, true, List, [], ◌∷◌, ◌++◌, take, Ok, Err, codes, Result}
use Rattle.reading.specs.declared.fault.LineFault.{LineFault}
use Rattle.reading.specs.Faults.{refusal_number}
use Rattle.rules.specs.Chains.{Grants, GrantsFirst}
use Rattle.rules.specs.Rules.{Rules}
use Rattle.rules.specs.Weights.{crossings_added}
use Rattle.rules.specs.declared.weights.Crossings.{Crossings}
use Rattle.rules.specs.declared.weights.Label.{Label}
use Rattle.rules.specs.declared.weights.Steps.{Steps}
use Rattle.search.specs.Questions.{Asked, Enough, Bits, HeldIn}
use Rattle.search.specs.Refusals.{refusal}
use Rattle.search.specs.declared.answer.Found.{Found}
use Rattle.search.specs.declared.answer.Refusal.{Refusal}
use Rattle.tables.specs.HostsText.{hosts_in}
use Rattle.tables.specs.PasswdText.{accounts_in}
use Rattle.tables.specs.GroupText.{groups_in}
use Rattle.trust.specs.TrustText.{trust_in}
use Rattle.trust.specs.DomainText.{domain_in}
use Rattle.listing.specs.Files.{files_in}
use Rattle.allows.specs.Hub.{hub, HubSlots}

-- lines, each with its end
abbrev pub text : List (List ℕ) → List ℕ
text [] = []
text (l ∷ ls) = l ++ (10 ∷ text ls)

abbrev pub hosts_text : List ℕ
hosts_text = text (codes "10.0.0.1 hub" ∷ [])

abbrev pub passwd_text : List ℕ
passwd_text = text (codes "root:*:0:0::/:" ∷ codes "tom:*:10:20::/home/tom:" ∷ codes "larry:*:11:20::/home/larry:" ∷ [])

abbrev pub group_text : List ℕ
group_text = text (codes "wheel:*:0:" ∷ codes "staff:*:20:" ∷ [])

abbrev pub mtree_text : List ℕ
mtree_text = text (codes ". type=dir uid=0 gid=0 mode=755" ∷ codes "./etc type=dir uid=0 gid=0 mode=755" ∷ codes "./home type=dir uid=0 gid=0 mode=755"
    ∷ codes "./etc/passwd type=file uid=11 gid=0 mode=644" ∷ codes "./home/larry type=dir uid=11 gid=20 mode=755" ∷ codes "./home/larry/.cshrc type=file uid=11 gid=20 mode=664" ∷ [])

-- the number by which a text is refused, and 0 where it is taken
abbrev pub refused : {X : Type 0} → Result X LineFault → ℕ
refused (Ok x) = 0
refused (Err f) = refusal_number f.refusal

-- A question over any source by any measure of weights W, with its memory before and after, and its answer.
pub record Question (W : Type 0) : Type 0 where
  pub zero : W
  pub add : W → Bool → W
  pub at_most : W → W → Bool
  pub source : Rules
  pub held : List ℕ
  pub target : ℕ
  pub marks₀ : List ℕ
  pub marks : List ℕ
  pub labels₀ : List (Label W)
  pub labels : List (Label W)
  pub plan₀ : List ℕ
  pub plan : List ℕ
  pub rules₀ : List ℕ
  pub rules : List ℕ
  pub answer : Result (Found W) Refusal
  pub asked : Asked zero add at_most source (Grants source) (GrantsFirst source) held target marks₀ marks labels₀ labels plan₀ plan rules₀ rules answer

-- the held set of a question
abbrev pub HeldBy : {W : Type 0} → Question W → ℕ → Type 0
HeldBy q p = HeldIn (take q.source.count q.held) p

-- Where the target itself is held, a plan has no step.
abbrev pub HeldTarget : Type 0
HeldTarget = (q : Question Steps) (f : Found Steps) → q.answer ≡ Ok f → HeldBy q q.target → f.steps ≡ 0

-- Where nothing is held, a well-formed question is answered by 13.
abbrev pub NothingHeld : Type 0
NothingHeld = (q : Question Steps) → Enough q.source.count q.held q.marks₀ q.labels₀ q.plan₀ q.rules₀ → Bits (take q.source.count q.held) → q.source.live q.target ≡ true → ((p : ℕ) → HeldBy q p → ⊥) → refusal q.answer ≡ 13

-- All of it together.
pub record HubStands : Type 0 where
  pub hosts_are_read : hosts_in hosts_text ≡ Ok (codes "hub" ∷ [])
  pub accounts_are_read : accounts_in passwd_text ≡ Ok hub.accounts
  pub groups_are_read : groups_in hub.accounts group_text ≡ Ok hub.groups
  pub files_are_read : files_in mtree_text ≡ Ok hub.files
  pub trust_is_read : trust_in 16 [] ≡ Ok hub.equiv
  pub domain_is_read : domain_in (codes "hub" ∷ []) [] ≡ Ok hub.domain
  pub slots : HubSlots
  pub number_too_large : refused (accounts_in (text (codes "root:*:4294967295:0::/:" ∷ []))) ≡ 4
  pub crossing_at_the_edge : (w : Crossings) → w.crossings ≡ 65534 → w.steps ≡ 9 → ((crossings_added w true).crossings ≡ 65535) × ((crossings_added w true).steps ≡ 10)
  pub held_target_gives_0_steps : HeldTarget
  pub nothing_held_gives_13 : NothingHeld
