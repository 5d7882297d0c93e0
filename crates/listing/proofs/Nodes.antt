-- The lines of the nodes.
use Prim.Native.Nat.{ℕ, suc, ◌+◌, ◌*◌}
use mathlib.Core.Path.{◌≡◌, refl, sym, ap, ◌∙◌}
use mathlib.Core.List.{List, [], ◌∷◌, ◌++◌, append-nil, append_assoc}
use native.Mathlib.Numerals.{add-one}
use native.Mathlib.Omega.{arith}
use lib.IntN.{ℤ}
use lib.ListN.{length, get_or}
use Rattle.laws.specs.Lists.{tab, concat}
use Rattle.laws.proofs.Lists.{tab_snoc, concat_append}
use Rattle.laws.proofs.Machine.{read_back}
use Rattle.plan.specs.declared.Interval.{Interval}
use Rattle.plan.specs.Words.{node_at}
use Rattle.plan.specs.Answers.{accepted}
use Rattle.bounds.specs.Narrow.{Held}
use Rattle.rules.specs.Rules.{Derived, no_source}
use Rattle.verifier.specs.Listing.{decimal, signed, shape_text, node_line, text_of, header, accepted_word, space, line_feed}
use Rattle.verifier.proofs.Writing.{low_is, high_is}
use Rattle.laws.specs.Pieces.{Writes}
use Rattle.listing.specs.Text.{lines_of}
use Rattle.laws.proofs.Pieces.{then, within, said, nothing}

-- one line, with the bounds as one piece
pieces : (a b c d : List ℕ) → a ++ (b ++ c) ++ d ≡ a ++ b ++ c ++ d
pieces a b c d = ap (λ (ws : List ℕ). ws ++ d) (sym (append_assoc a b c))

pub line_is : (n op : ℕ) (d : Derived)
    → decimal n ++ space ∷ decimal op ++ space ∷ decimal d.dtype ++ space ∷ decimal d.device ++ (space ∷ signed d.bounds.low ++ space ∷ signed d.bounds.high) ++ space ∷ shape_text d.extents ++ line_feed ∷ []
    ≡ node_line n op d
unfolding node_line
line_is n op d =
    ap (λ (ws : List ℕ). ws ++ line_feed ∷ [])
    (pieces (decimal n ++ space ∷ decimal op ++ space ∷ decimal d.dtype ++ space ∷ decimal d.device) (space ∷ signed d.bounds.low) (space ∷ signed d.bounds.high) (space ∷ shape_text d.extents))

-- the bounds, as the code reads them
pub ends_are : {i j : Interval} → i ≡ j → Held i → space ∷ signed (read_back i.low) ++ space ∷ signed (read_back i.high) ≡ space ∷ signed j.low ++ space ∷ signed j.high
ends_are e h = rw (low_is e h, high_is e h) refl

-- the lines of no node, and of one more
module _ (t : List ℤ) (ds : List Derived) where
  pub no_lines : (l : List ℕ) (at : ℕ) → Writes (lines_of t ds 0) (255 * 0) l at l at
  unfolding tab concat
  no_lines l at = within 0 (nothing l at) (omega arith)

  lines_more : (i : ℕ) → lines_of t ds i ++ node_line i (node_at t i).op (get_or ds i no_source) ≡ lines_of t ds (suc i)
  unfolding concat
  lines_more i =
      let f : ℕ → List ℕ = λ (n : ℕ). node_line n (node_at t n).op (get_or ds n no_source) in
      sym (ap concat (tab_snoc i f) ∙ concat_append (tab i f) (f i ∷ []) ∙ rw append-nil refl)

  pub next_line : (i op : ℕ) (d : Derived) {before mid after : List ℕ} {at place next : ℕ} → op ≡ (node_at t i).op → d ≡ get_or ds i no_source
      → Writes (lines_of t ds i) (255 * i) before at mid place → Writes (node_line i op d) 255 mid place after next
      → Writes (lines_of t ds (i + 1)) (255 * (i + 1)) before at after next
  next_line i op d e q v w =
      within (255 * (i + 1)) (said (rw (e, q, add-one) (lines_more i)) (then v w)) (omega arith)

-- all of an accepted plan's text
pub accepted_is : (t : List ℤ) (ds : List Derived) (count : ℕ) → length ds ≡ count
    → header ++ lines_of t ds count ++ accepted_word ++ decimal count ++ line_feed ∷ [] ≡ text_of (accepted (record { table = t; records = ds }))
accepted_is t ds count e = rw (← e) refl
