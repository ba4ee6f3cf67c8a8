-- A change carries the lists as it carries the ledger.
use Rattle.std.proofs.Common.{◌≡◌, ℕ, suc, ◌<◌, Bool, true, false, cond, not, ◌&&◌, ◌||◌, eqb, ltb, List, [], ◌∷◌, ◌++◌, length, is_ok, Ok, Err, sym, refl, ap, ◌∙◌, subst, ap₂, arith, length-append}
use Rattle.std.proofs.lemmas.Bool.{cond_both, and_parts, and_from, ltb-true}
use Rattle.std.specs.List.{list_any}
use Rattle.std.proofs.lemmas.List.Folds.{list_all-append}
use Rattle.rules.specs.Rules.{Rules}
use Rattle.layers.specs.Layers.{without, is_pair, is_bar, room}
use Rattle.trial.specs.Sets.{Members, joined, parted, has, Tells, Lists, same_pair}
use Rattle.layers.specs.Answers.{Answer, numbered, adding, taking}
use Rattle.trial.specs.Ledger.{Ledger, adds, takes, verdict, entered, next}
use Rattle.trial.specs.Tables.{Tables, list_verdict, list_entered, list_next, alive, Stands, Carries}
use Rattle.trial.specs.declared.calls.Change.{Change}
use Rattle.trial.specs.declared.calls.Change.TheVariants.{Assume, Withdraw, Bar, Lift}
use Rattle.trial.proofs.SetLaws.{eqb_tells_all, pair_tells, has_push, has-without, apart-push, apart-without}

adding_ok : (a b c : Bool) → is_ok (adding a b c) ≡ true → (a ≡ true) × (b ≡ false) × (c ≡ true)
adding_ok true false true e = (refl, refl, refl)
adding_ok true false false e = cc
adding_ok true true c e = cc
adding_ok false b c e = cc

taking_ok : (a b : Bool) → is_ok (taking a b) ≡ true → b ≡ true
taking_ok true true e = refl
taking_ok true false e = cc
taking_ok false b e = cc

numbered-adding : (a b c : Bool) → numbered (adding a b c) ≡ adds a b c
numbered-adding true true c = refl
numbered-adding true false true = refl
numbered-adding true false false = refl
numbered-adding false b c = refl

numbered-taking : (a b : Bool) → numbered (taking a b) ≡ takes a b
numbered-taking true true = refl
numbered-taking true false = refl
numbered-taking false b = refl

numbered_ok : (r : Answer) → is_ok r ≡ is_ok (numbered r)
numbered_ok (Ok u) = refl
numbered_ok (Err e) = refl

alive-without : (live : ℕ → Bool) (t : ℕ × ℕ → Bool) (ps : List (ℕ × ℕ)) → alive live ps ≡ true → alive live (without t ps) ≡ true
alive-without live t [] a = a
alive-without live t (x ∷ ps) a =
    let b = and_parts _ _ a in
    cond_both (t x) ps (x ∷ without t ps) (λ ys. alive live ys ≡ true) (λ _. b.1) (λ _. and_from _ _ b.0 (alive-without live t ps b.1))

-- one less
fewer : {X : Type 0} (t : X → Bool) (xs : List X) → list_any t xs ≡ true → suc (length (without t xs)) ≡ length xs
fewer t [] h = cc
fewer t (x ∷ xs) h = let less = fewer t xs in cond_both (t x) xs (x ∷ without t xs) (λ ys. suc (length ys) ≡ suc (length xs)) (λ _. refl) (λ f. grind arith)

module _ {X : Type 0} (e : X → X → Bool) (tells : Tells e) (x : X) (xs : List X) (s : Members X) (is : Lists e xs s) where
  lists-push : has e x xs ≡ false → Lists e (xs ++ x ∷ []) (joined e x s)
  lists-push fresh = record {
    none_twice = apart-push e tells x xs is.none_twice fresh;
    same_members = λ y. ap (λ b. b || e x y) (is.same_members y) ∙ sym (has_push e tells y x xs);
    as_many = omega (arith, is.as_many, length-append xs (x ∷ []));
  }

  lists-without : has e x xs ≡ true → Lists e (without (λ y. e y x) xs) (parted e x s)
  lists-without there = record {
    none_twice = apart-without e tells x xs is.none_twice;
    same_members = λ y. ap (λ b. b && not (e x y)) (is.same_members y) ∙ sym (has-without e tells y x xs is.none_twice);
    as_many = omega (arith, is.as_many, fewer (λ y. e y x) xs there);
  }

module _ (R : Rules) (T : Tables) (l : Ledger) (st : Stands R T l) where
  same-verdict : (c : Change) → numbered (list_verdict R T c) ≡ verdict R l c
  same-verdict (Assume p g) = numbered-adding (R.live p && R.live g) (list_any (is_pair p g) T.assumed) (ltb (length T.assumed) (room R)) ∙ ap₂ (λ (b : Bool) (n : ℕ). adds (R.live p && R.live g) b (ltb n (room R))) (sym (st.pairs.same_members (p, g))) (sym st.pairs.as_many)
  same-verdict (Withdraw p g) = numbered-taking (R.live p && R.live g) (list_any (is_pair p g) T.assumed) ∙ ap (λ (b : Bool). takes (R.live p && R.live g) b) (sym (st.pairs.same_members (p, g)))
  same-verdict (Bar p) = numbered-adding (R.live p) (list_any (is_bar p) T.barred) (ltb (length T.barred) 32) ∙ ap₂ (λ (b : Bool) (n : ℕ). adds (R.live p) b (ltb n 32)) (sym (st.bars.same_members p)) (sym st.bars.as_many)
  same-verdict (Lift p) = numbered-taking (R.live p) (list_any (is_bar p) T.barred) ∙ ap (λ (b : Bool). takes (R.live p) b) (sym (st.bars.same_members p))

  entered-stands : (c : Change) → is_ok (list_verdict R T c) ≡ true → Stands R (list_entered T c) (entered l c)
  entered-stands (Assume p g) ok =
      let h = adding_ok (R.live p && R.live g) (list_any (is_pair p g) T.assumed) (ltb (length T.assumed) (room R)) ok in
      let lt : length T.assumed < room R = ltb-true _ _ h.2 in
      record {
        pairs = lists-push same_pair pair_tells (p, g) T.assumed l.assumed st.pairs h.1;
        bars = st.bars;
        within_room = simp length-append (omega arith);
        all_live = list_all-append (λ x. R.live x.0 && R.live x.1) T.assumed ((p, g) ∷ []) ∙ and_from _ _ st.all_live (and_from _ _ h.0 refl);
      }
  entered-stands (Withdraw p g) ok =
      let there = taking_ok (R.live p && R.live g) (list_any (is_pair p g) T.assumed) ok in
      record {
        pairs = lists-without same_pair pair_tells (p, g) T.assumed l.assumed st.pairs there;
        bars = st.bars;
        within_room = omega (arith, st.within_room, fewer (is_pair p g) T.assumed there);
        all_live = alive-without R.live (is_pair p g) T.assumed st.all_live;
      }
  entered-stands (Bar p) ok =
      let h = adding_ok (R.live p) (list_any (is_bar p) T.barred) (ltb (length T.barred) 32) ok in
      record { pairs = st.pairs; bars = lists-push eqb eqb_tells_all p T.barred l.barred st.bars h.1; within_room = st.within_room; all_live = st.all_live }
  entered-stands (Lift p) ok =
      let there = taking_ok (R.live p) (list_any (is_bar p) T.barred) ok in
      record { pairs = st.pairs; bars = lists-without eqb eqb_tells_all p T.barred l.barred st.bars there; within_room = st.within_room; all_live = st.all_live }

  next-stands : (c : Change) → Stands R (list_next R T c) (next R l c)
  next-stands c = go (is_ok (list_verdict R T c)) (is_ok (verdict R l c)) (numbered_ok (list_verdict R T c) ∙ ap is_ok (same-verdict c)) (entered-stands c)
    where
      go : (a b : Bool) → a ≡ b → (a ≡ true → Stands R (list_entered T c) (entered l c)) → Stands R (cond a (list_entered T c) T) (cond b (entered l c) l)
      go true true e f = f refl
      go true false e f = cc
      go false true e f = cc
      go false false e f = st

pub carried : (R : Rules) (T₀ T : Tables) (c : Change) (r : Answer) → r ≡ list_verdict R T₀ c → T ≡ list_next R T₀ c → Carries R T₀ T c r
carried R T₀ T c r said left l st = (ap numbered said ∙ same-verdict R T₀ l st c, subst (λ (X : Tables). Stands R X (next R l c)) (sym left) (next-stands R T₀ l st c))
