-- From the labels to the answer.
use Rattle.std.proofs.Common.{◌≡◌, ℕ, zero, suc, ◌≤◌, Bool, true, List, [], ◌∷◌, ◌++◌, length, get_or, take, drop, replicate, Ok, Err, Result, sym, refl, ap, ◌∙◌, subst, ap₂, inl, inr, arith, length-take-le}
use Rattle.rules.specs.Rules.{Rules, Lawful}
use Rattle.rules.specs.Measures.{Measures}
use Rattle.rules.specs.Chains.{Grants, GrantsFirst, weight_of}
use Rattle.rules.specs.declared.weights.Label.{Label}
use Rattle.search.specs.declared.answer.Found.{Found}
use Rattle.search.specs.Labels.{mark, State}
use Rattle.search.specs.Lists.{overlay}
use Rattle.search.specs.Trails.{Traced}
use Rattle.search.specs.Plans.{Follows, rules_of, Fitting, Done, Arrived}
use Rattle.std.proofs.lemmas.Bool.{both_ways}
use Rattle.search.specs.declared.answer.Refusal.{Refusal}
use Rattle.search.specs.declared.answer.Refusal.TheVariants.{ShortMemory, BadHeldByte, NotLive, NoChain}
use Rattle.search.specs.Refusals.{refusal}
use Rattle.search.specs.Questions.{Bits, BadByte, AllAlive, SomeDead, Chainless, HeldIn, Apart, Ruled, NoneTwice, NoneHeld, Planned, Enough, Exactly, PlannedOrLeft, Asked}
use Rattle.search.specs.Outcomes.{Searched}
use Rattle.search.proofs.Keeping.{ends, traced-weighs, traced-leads, leads-live}

follows_same : {W : Type 0} (z : W) (ls : List (Label W)) (t p : ℕ) (qs rs : List ℕ) → Follows z ls t p qs → Follows z ls t p rs → qs ≡ rs
follows_same z ls t p [] [] f h = refl
follows_same z ls t p [] (r ∷ rs) f h = absurd (h.0 f)
follows_same z ls t p (q ∷ qs) [] f h = absurd (f.0 h)
follows_same z ls t p (q ∷ qs) (r ∷ rs) f h =
    let e : q ≡ r = sym f.2 ∙ h.2 in
    ap₂ (λ x l. x ∷ l) e (follows_same z ls t r qs rs (subst (λ (x : ℕ). Follows z ls t x qs) e f.3) h.3)

module _ {W : Type 0} {z : W} {add : W → Bool → W} {at_most : W → W → Bool} (laws : Measures z add at_most) (R : Rules) (lawful : Lawful R) (held : ℕ → Type 0) (t : ℕ) where
  module _ (s : State W) where
    traced-follows : R.count ≤ length s.1 → (p : ℕ) (qs : List ℕ) → Traced z add R t s p qs → Follows z s.1 t p qs
    traced-follows room p [] h = h.0
    traced-follows room p (q ∷ qs) h = (
      (λ e. ends laws R lawful t s q qs h.2 (subst (λ (x : ℕ). Apart x (q ∷ qs)) e h.1)),
      omega (arith, lawful.live_below_count p (lawful.slot_leads_to_live q h.0.first.0 p _ h.0.first.1)),
      h.0.next,
      traced-follows room q qs h.2,
    )

    traced-ruled : (p : ℕ) (qs : List ℕ) → Traced z add R t s p qs → Ruled (GrantsFirst R) p qs (rules_of z s.1 p qs)
    traced-ruled p [] h = tt
    traced-ruled p (q ∷ qs) h = (h.0.first, traced-ruled q qs h.2)

    traced-distinct : (p : ℕ) (qs : List ℕ) → Traced z add R t s p qs → NoneTwice (p ∷ qs)
    traced-distinct p [] h = (tt, tt)
    traced-distinct p (q ∷ qs) h = (h.1, traced-distinct q qs h.2)

    traced-unheld : ((p : ℕ) → mark s.0 p ≡ 2 → held p → ⊥) → (p : ℕ) (qs : List ℕ) → Traced z add R t s p qs → NoneHeld held qs
    traced-unheld free p [] h = tt
    traced-unheld free p (q ∷ qs) h = (free q h.0.done, traced-unheld free q qs h.2)

    module _ (p : ℕ) (came : Arrived z add at_most R held t s p) (room : R.count ≤ length s.1) where
      pub fitting : (plan rules : List ℕ) → R.count ≤ length plan → R.count ≤ length rules → Fitting z s.1 t p plan rules
      fitting plan rules a b = record {
        labelled = came.within;
        rest = came.trail.rest;
        follows = traced-follows room p came.trail.rest came.trail.traced;
        in_plan = omega (arith, came.short);
        in_rules = omega (arith, came.short);
        in_count = omega (arith, came.short, lawful.count_at_most_8192);
      }

      pub planned : R.live t ≡ true → (plan₀ plan rules₀ rules : List ℕ) (f : Found W) → Done z s.1 t p f plan₀ plan rules₀ rules →
          Planned z add at_most R (Grants R) (GrantsFirst R) held t plan₀ plan rules₀ rules f
      planned live plan₀ plan rules₀ rules f done =
          let rest = came.trail.rest in
          let traced = came.trail.traced in
          let leads = traced-leads laws R lawful t s p rest traced in
          let same : done.rest ≡ rest = follows_same z s.1 t p done.rest rest done.follows (traced-follows room p rest traced) in
          record {
            first = p;
            rest = rest;
            beside = rules_of z s.1 p rest;
            is_a_least_plan = record {
              plan_is_a_chain = (came.is_held, leads-live laws R lawful t p rest live leads, leads);
              each_step_has_its_rule = traced-ruled p rest traced;
              plan_is_least = λ ps h. ap (λ w. at_most w (weight_of z add R ps)) done.weight ∙ came.least ps h;
              weight_is_the_plans = done.weight ∙ traced-weighs laws R lawful t s p rest traced;
              steps_are_the_plans = done.steps ∙ ap length same;
              no_privilege_twice = traced-distinct p rest traced;
              none_but_the_first_held = traced-unheld came.unheld p rest traced;
              shorter_than_the_count = came.short;
            };
            written_held_end_first = done.plan_is ∙ ap (λ l. overlay (p ∷ l) plan₀) same;
            rules_written_beside = done.rules_is ∙ ap (λ l. overlay (0 ∷ rules_of z s.1 p l) rules₀) same;
          }

-- a part from the start, all zero, put back
overlay-zeros : (n : ℕ) (ms : List ℕ) → n ≤ length ms → replicate n 0 ++ drop n ms ≡ overlay (replicate n 0) ms
overlay-zeros zero ms h = refl
overlay-zeros (suc n) [] h = absurd (omega arith)
overlay-zeros (suc n) (m ∷ ms) h = ap (λ l. 0 ∷ l) (overlay-zeros n ms (omega arith))

-- the ways out exclude each other
module _ (R : Rules) (hs : List ℕ) (t : ℕ) where
  no-bad-byte : Bits hs → BadByte hs → ⊥
  no-bad-byte bits bad = omega (arith, bits bad.0 bad.1, bad.2)

  no-dead : AllAlive R hs t → SomeDead R hs t → ⊥
  no-dead alive (inl d) = both_ways (R.live t) d alive.0
  no-dead alive (inr d) = both_ways (R.live d.0) d.3 (alive.1 d.0 d.1 d.2)

module _ {W : Type 0} (z : W) (add : W → Bool → W) (at_most : W → W → Bool) (R : Rules) (hs : List ℕ) (t : ℕ) (ms₀ : List ℕ) (ls₀ : List (Label W)) (plan₀ rules₀ : List ℕ) where
  abbrev Suffices : Type 0
  Suffices = Enough R.count hs ms₀ ls₀ plan₀ rules₀

  abbrev The-promise : List ℕ → List (Label W) → List ℕ → List ℕ → Result (Found W) Refusal → Type 0
  The-promise ms ls plan rules r = Asked z add at_most R (Grants R) (GrantsFirst R) hs t ms₀ ms ls₀ ls plan₀ plan rules₀ rules r

  -- memory that suffices, of which the first k marks were lent on and came back as zs
  module _ (enough : Suffices) (ls : List (Label W)) (k : ℕ) (is : k ≡ R.count) (zs : List ℕ) (cleared : zs ≡ replicate (length (take k ms₀)) 0) (many : length ls ≡ length ls₀) (past : (i : ℕ) (d : Label W) → R.count ≤ i → get_or ls i d ≡ get_or ls₀ i d) where
    abbrev held : List ℕ
    held = take R.count hs

    promise : (plan rules : List ℕ) (r : Result (Found W) Refusal) → (refusal r ≡ 1 → ⊥) →
        Exactly (refusal r ≡ 16) (Suffices × BadByte held) →
        Exactly (refusal r ≡ 12) (Suffices × Bits held × SomeDead R held t) →
        Exactly (refusal r ≡ 13) (Suffices × Bits held × AllAlive R held t × Chainless R (Grants R) held t) →
        PlannedOrLeft z add at_most R (Grants R) (GrantsFirst R) held t plan₀ plan rules₀ rules r → The-promise (zs ++ drop k ms₀) ls plan rules r
    promise plan rules r one a b c d = record {
      short_memory_exactly_when_not_enough = ((λ e. absurd (one e)), λ lacking. absurd (lacking enough));
      bad_byte_exactly_when_neither_0_nor_1 = a;
      not_live_exactly_when_some_is_dead = b;
      no_chain_exactly_when_none = c;
      planned_or_left = d;
      short_memory_alters_nothing = λ e. absurd (one e);
      first_n_marks_end_zero = λ _. rw (cleared, is, length-take-le R.count ms₀ enough.marks) (overlay-zeros R.count ms₀ enough.marks);
      labels_keep_their_number = many;
      labels_past_n_stay = past;
    }

    -- a refusal
    pub asked-refused : (e : Refusal) → Searched z add at_most R (take k hs) t ls (Err e) → The-promise (zs ++ drop k ms₀) ls plan₀ rules₀ (Err e)
    asked-refused e s = go e (subst (λ (n : ℕ). Searched z add at_most R (take n hs) t ls (Err e)) is s)
      where
        go : (e : Refusal) → Searched z add at_most R held t ls (Err e) → The-promise (zs ++ drop k ms₀) ls plan₀ rules₀ (Err e)
        go ShortMemory s = absurd s
        go BadHeldByte s = promise plan₀ rules₀ (Err BadHeldByte) (λ e. omega arith)
            ((λ _. (enough, s)), λ _. refl)
            ((λ e. absurd (omega arith)), λ h. absurd (no-bad-byte R held t h.1 s))
            ((λ e. absurd (omega arith)), λ h. absurd (no-bad-byte R held t h.1 s))
            (refl, refl)
        go NotLive s = promise plan₀ rules₀ (Err NotLive) (λ e. omega arith)
            ((λ e. absurd (omega arith)), λ h. absurd (no-bad-byte R held t s.0 h.1))
            ((λ _. (enough, s.0, s.1)), λ _. refl)
            ((λ e. absurd (omega arith)), λ h. absurd (no-dead R held t h.2 s.1))
            (refl, refl)
        go NoChain s = promise plan₀ rules₀ (Err NoChain) (λ e. omega arith)
            ((λ e. absurd (omega arith)), λ h. absurd (no-bad-byte R held t s.0.0 h.1))
            ((λ e. absurd (omega arith)), λ h. absurd (no-dead R held t s.0.1 h.2))
            ((λ _. (enough, s.0.0, s.0.1, s.1)), λ _. refl)
            (refl, refl)

    -- a plan
    pub asked-planned : (laws : Measures z add at_most) (lawful : Lawful R) (q : ℕ) → Searched z add at_most R (take k hs) t ls (Ok q) → (f : Found W) (plan rules : List ℕ) → Done z ls t q f plan₀ plan rules₀ rules →
        The-promise (zs ++ drop k ms₀) ls plan rules (Ok f)
    asked-planned laws lawful q s f plan rules done = go (subst (λ (n : ℕ). Searched z add at_most R (take n hs) t ls (Ok q)) is s)
      where
        go : Searched z add at_most R held t ls (Ok q) → The-promise (zs ++ drop k ms₀) ls plan rules (Ok f)
        go (judged, (seen, came)) =
            let p = planned laws R lawful (HeldIn held) t (seen, ls) q came (omega (arith, enough.labels, many)) judged.1.0 plan₀ plan rules₀ rules f done in
            promise plan rules (Ok f) (λ e. omega arith)
            ((λ e. absurd (omega arith)), λ h. absurd (no-bad-byte R held t judged.0 h.1))
            ((λ e. absurd (omega arith)), λ h. absurd (no-dead R held t judged.1 h.2))
            ((λ e. absurd (omega arith)), λ h. absurd (h.3 (p.first ∷ p.rest) p.is_a_least_plan.plan_is_a_chain))
            (judged.0, judged.1, p)
