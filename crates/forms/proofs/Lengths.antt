-- How many bytes a form has, and that they can be printed. Assumes nothing.
use Rattle.std.proofs.Common.{◌≡◌, ℕ, ◌+◌, ◌^◌, ◌<◌, ◌≤◌, true, All, List, ◌++◌, length, codes, decimal, refl, arith}
use Rattle.std.specs.List.{list_all}
use Rattle.std.proofs.lemmas.List.Elements.{All-append}
use Rattle.std.proofs.lemmas.List.{length-append}
use Rattle.rules.specs.Names.{Printable}
use Rattle.rules.proofs.Naming.{printable_byte, printable_piece, printable_decimal}
use Rattle.print.proofs.Short.{decimal_short}
use Rattle.forms.specs.Forms.{text_at_host, numbered_at, name_form, number_form, group_form, write_form, replace_form}
use Rattle.forms.proofs.Visible.{Solid, printable}

-- what each form keeps to
pub record Proper (form : List ℕ) : Type 0 where
  pub some : 1 ≤ length form
  pub short : length form ≤ 128
  pub clean : All Printable form

-- the forms fit their memory
pub placed_short : (front what host : List ℕ) → length front + length what ≤ 93 → length host ≤ 31 → length (front ++ text_at_host what host) ≤ 128
placed_short front what host f h = simp length-append (omega arith)

pub counted_short : (front : List ℕ) (u : ℕ) (name host : List ℕ) → u < 2 ^ 32 → length front ≤ 49 → length name ≤ 31 → length host ≤ 31 → length (front ++ numbered_at u name host) ≤ 128
counted_short front u name host s f n h = simp length-append (omega (arith, decimal_short u s))

-- a fixed piece and more
begun : (front rest : List ℕ) → list_all printable_byte front ≡ true → All Printable rest → All Printable (front ++ rest)
begun front rest e r = All-append Printable front rest (printable_piece front e) r

module _ (n h : List ℕ) (solid-n : Solid n) (solid-h : Solid h) (short-h : length h ≤ 31) where
  clean_text_at_host : All Printable (text_at_host n h)
  clean_text_at_host = All-append Printable n (codes " at " ++ h) (printable n solid-n) (begun (codes " at ") h refl (printable h solid-h))

  -- the forms that name something at a host
  placed : (front : List ℕ) → list_all printable_byte front ≡ true → 1 ≤ length front → length front + length n ≤ 93 → Proper (front ++ text_at_host n h)
  placed front e some short = record {
    some = simp length-append (omega arith);
    short = placed_short front n h short short-h;
    clean = begun front (text_at_host n h) e clean_text_at_host;
  }

  pub name-proper : length n ≤ 31 → Proper (name_form n h)
  name-proper s = placed (codes "Become user named ") refl (omega arith) (omega arith)

  pub write-proper : length n ≤ 63 → Proper (write_form n h)
  write-proper s = placed (codes "Write file ") refl (omega arith) (omega arith)

  pub replace-proper : length n ≤ 63 → Proper (replace_form n h)
  replace-proper s = placed (codes "Replace file ") refl (omega arith) (omega arith)

  module _ (u : ℕ) (small : u ≤ 4294967294) (short-n : length n ≤ 31) where
    numbered-clean : All Printable (numbered_at u n h)
    numbered-clean = All-append Printable (decimal u) (codes " (" ++ (n ++ (codes ") at " ++ h))) (printable_decimal u (omega arith))
        (begun (codes " (") (n ++ (codes ") at " ++ h)) refl (All-append Printable n (codes ") at " ++ h) (printable n solid-n) (begun (codes ") at ") h refl (printable h solid-h))))

    -- the forms that name a number
    counted : (front : List ℕ) → list_all printable_byte front ≡ true → 1 ≤ length front → length front ≤ 49 → Proper (front ++ numbered_at u n h)
    counted front e some short = record {
      some = simp length-append (omega arith);
      short = counted_short front u n h (omega arith) short short-n short-h;
      clean = begun front (numbered_at u n h) e numbered-clean;
    }

    pub number-proper : Proper (number_form u n h)
    number-proper = counted (codes "Become user number ") refl (omega arith) (omega arith)

    pub group-proper : Proper (group_form u n h)
    group-proper = counted (codes "Become member of group ") refl (omega arith) (omega arith)
