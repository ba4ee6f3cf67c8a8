-- The bytes of names, paths and numbers can be seen, and those of forms can be printed. Assumes nothing.
use Rattle.std.proofs.Common.{◌≡◌, ℕ, ◌+◌, ◌%◌, ◌^◌, ◌<◌, ◌≤◌, Bool, true, false, cond, not, eqb, leb, All, List, [], ◌∷◌, length, codes, decimal, sym, refl, ⊎_elim, arith}
use Rattle.std.specs.List.{list_all}
use Rattle.std.proofs.lemmas.Fmt.{decimal_by_steps}
use Rattle.std.proofs.lemmas.List.Elements.{All-nil, All-cons, All-head, All-tail, All-push, All-weaker}
use Rattle.std.proofs.lemmas.List.Sums.{AllPass-from_list_all}
use Rattle.std.proofs.lemmas.Slice.Eq.{bytes_eq-Decides}
use Rattle.std.proofs.lemmas.Bool.{leb-true, eqb-true, and_parts, or_cases}
use Rattle.rules.specs.Names.{Printable}
use Rattle.text.specs.Bytes.{within, name_byte, opens, name_form, name, dots, part}
use Rattle.text.specs.Cuts.{marks, onto, parted, fields}
use Rattle.text.specs.Paths.{rooted, path}
use Rattle.text.specs.declared.cuts.Mark.TheVariants.{Slash}

-- a byte past the blank, up to the tilde
abbrev pub Visible : ℕ → Type 0
Visible b = (33 ≤ b) × (b ≤ 126)

abbrev pub Solid : List ℕ → Type 0
Solid bs = All Visible bs

Visible-within : (b : ℕ) → within 33 126 b ≡ true → Visible b
Visible-within b e = let h = and_parts (leb 33 b) (leb b 126) e in (leb-true 33 b h.0, leb-true b 126 h.1)

-- fixed pieces, looked through by computing
pub solid_piece : (bs : List ℕ) → list_all (within 33 126) bs ≡ true → Solid bs
solid_piece bs e = All-weaker (λ b. within 33 126 b ≡ true) Visible Visible-within bs (AllPass-from_list_all (within 33 126) bs e)

pub solid_name : (bs : List ℕ) → name bs ≡ true → Solid bs
solid_name bs e =
    All-weaker (λ b. name_byte b ≡ true) Visible (λ b h. Visible-within b (and_parts _ _ h).0) bs
    (AllPass-from_list_all name_byte bs (and_parts (opens bs) (list_all name_byte bs) (and_parts (leb (length bs) 31) (name_form bs) e).1).1)

-- what stands between slashes
abbrev pieces : List ℕ → List (List ℕ)
pieces bs = parted ([] ∷ []) (marks Slash) bs

onto-solid : (b : ℕ) (ls : List (List ℕ)) → All Solid (onto b ls) → Visible b × All Solid ls
onto-solid b [] h = (All-head Visible b [] (All-head Solid (b ∷ []) [] h), All-nil Solid)
onto-solid b (l ∷ ls) h =
    let first : Solid (b ∷ l) = All-head Solid (b ∷ l) ls h in
    (All-head Visible b l first, All-cons Solid l ls (All-tail Visible b l first) (All-tail Solid (b ∷ l) ls h))

solid_pieces : (bs : List ℕ) → All Solid (pieces bs) → Solid bs
solid_pieces [] h = All-nil Visible
solid_pieces (b ∷ bs) h = go (eqb b 47) refl h (solid_pieces bs) where
  go : (t : Bool) → eqb b 47 ≡ t → All Solid (cond t ([] ∷ pieces bs) (onto b (pieces bs))) → (All Solid (pieces bs) → Solid bs) → Solid (b ∷ bs)
  go true is h rest = let q = eqb-true b 47 is in All-cons Visible b bs (omega arith, omega arith) (rest (All-tail Solid [] (pieces bs) h))
  go false is h rest = let k = onto-solid b (pieces bs) h in All-cons Visible b bs k.0 (rest k.1)

solid_parts : (ls : List (List ℕ)) → list_all part ls ≡ true → All Solid ls
solid_parts ls e = All-weaker (λ l. part l ≡ true) Solid (λ l h. solid_name l (and_parts (name l) (not (dots l)) h).0) ls (AllPass-from_list_all part ls e)

solid_rooted : (bs : List ℕ) → rooted bs ≡ true → Solid bs
solid_rooted [] e = All-nil Visible
solid_rooted (b ∷ bs) e =
    let h = and_parts (eqb b 47) (list_all part (fields Slash bs)) e in
    let q = eqb-true b 47 h.0 in
    All-cons Visible b bs (omega arith, omega arith) (solid_pieces bs (solid_parts (fields Slash bs) h.1))

pub solid_path : (bs : List ℕ) → path bs ≡ true → Solid bs
solid_path bs e = ⊎_elim
    (λ s. let q : codes "/" ≡ bs = sym ((bytes_eq-Decides bs (codes "/")).0 s) in let P : List ℕ → Type 0 = Solid in rw (← q) (solid_piece (codes "/") refl))
    (λ r. solid_rooted bs r)
    (or_cases _ _ (and_parts _ _ e).1)

pub solid_decimal : (n : ℕ) → n < 2 ^ 64 → Solid (decimal n)
solid_decimal n h =
    decimal_by_steps (λ _ ds. Solid ds)
    (λ m lt. All-cons Visible (48 + m) [] (omega arith, omega arith) (All-nil Visible))
    (λ m ds big e. All-push Visible ds (48 + m % 10) e (omega arith, omega arith))
    n h

pub printable : (bs : List ℕ) → Solid bs → All Printable bs
printable bs s = All-weaker Visible Printable (λ b v. (omega arith, omega arith)) bs s
