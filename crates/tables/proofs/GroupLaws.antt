-- The groups that a table holds are sound. Assumes nothing.
use Rattle.std.proofs.Common.{◌≡◌, ℕ, ◌+◌, ◌<◌, false, not, List, [], ◌∷◌, ◌++◌, length, get_or, Some, Ok, ap, ◌∙◌, arith}
use Rattle.std.specs.List.{list_any}
use Rattle.std.proofs.lemmas.List.{length-append}
use Rattle.std.proofs.lemmas.Slice.Eq.{bytes_eq-Decides}
use Rattle.std.proofs.lemmas.Bool.{or_left, or_right, eq-eqb}
use Rattle.text.specs.Cuts.{fields}
use Rattle.text.specs.declared.cuts.Mark.TheVariants.{Colon}
use Rattle.reading.specs.declared.fault.Refusal.TheVariants.{Fields, Given}
use Rattle.region.specs.Tables.{AccountEntry, GroupEntry}
use Rattle.region.specs.Sound.{GroupFormed, GroupsSound}
use Rattle.tables.specs.GroupText.{GroupFields, group_given, groups_of, four_fields, members, group_head_in, listed_in, group_step}
use Rattle.tables.specs.declared.groups.Groups.{Groups}
use Rattle.tables.proofs.Counts.{wants_ok, then_ok, needs_ok, row_added}
use Rattle.tables.proofs.Pushes.{each_push, distinct_push, not_any, few_push}

-- what a table holds is sound
pub groups_sound : (t : Groups) → GroupsSound (groups_of t)
groups_sound t = t.sound

pub groups_push : (xs : List GroupEntry) (g : GroupEntry) → GroupsSound xs → GroupFormed g → list_any (group_given g.name g.number) xs ≡ false → length xs < 16 → GroupsSound (xs ++ g ∷ [])
groups_push xs g s f u h =
    let given = group_given g.name g.number in
    record {
      few = few_push 16 xs g h;
      formed = each_push GroupFormed xs g s.formed f;
      names = distinct_push (λ x. x.name) xs g s.names given (λ i y e t. not_any given xs i y e t u) (λ y k. or_right _ _ ((bytes_eq-Decides y.name g.name).1 k));
      numbers = distinct_push (λ x. x.number) xs g s.numbers given (λ i y e t. not_any given xs i y e t u) (λ y k. or_left _ _ (eq-eqb y.number g.number k));
    }

fourth_field : (fs : List (List ℕ)) (e : GroupFields) → four_fields fs ≡ Some e → get_or fs 3 [] ≡ e.members
fourth_field fs e h = grind arith

-- the group that a line adds
pub group_added : (accounts : List AccountEntry) (rows : List GroupEntry) (l : List ℕ) (ys : List GroupEntry) → group_step accounts rows l ≡ Ok ys → (g : GroupEntry) × (ys ≡ rows ++ g ∷ []) × (listed_in accounts (members (get_or (fields Colon l) 3 [])) ≡ Ok g.listed)
group_added accounts rows l ys e =
    let p = wants_ok Fields (four_fields (fields Colon l)) _ ys e in
    let q = then_ok (group_head_in p.0) _ ys p.2 in
    let r = needs_ok Given (not (list_any (group_given q.0.name q.0.number) rows)) _ ys q.2 in
    let s = then_ok (listed_in accounts (members p.0.members)) _ ys r.1 in
    let g : GroupEntry = record { name = q.0.name; number = q.0.number; listed = s.0 } in
    (g, row_added 16 rows g ys s.2, ap (λ ms. listed_in accounts (members ms)) (fourth_field (fields Colon l) p.0 p.1) ∙ s.1)

pub group_grows : (accounts : List AccountEntry) (rows : List GroupEntry) (l : List ℕ) (ys : List GroupEntry) → group_step accounts rows l ≡ Ok ys → length ys ≡ length rows + 1
group_grows accounts rows l ys e = let p = group_added accounts rows l ys e in ap length p.1 ∙ length-append rows (p.0 ∷ [])
