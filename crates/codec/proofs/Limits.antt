-- How large what unpacking finds is, for its callers.
use Prim.Native.Nat.{ℕ, ◌*◌, ◌/◌, ◌≤◌}
use mathlib.Core.Path.{◌≡◌, subst}
use mathlib.Core.List.{List}
use native.Mathlib.Omega.{arith}
use borrow.Author.Tests.{leb-true}
use lib.Dec.{leb}
use lib.ListN.{length}
use Rattle.plan.specs.Answers.{Refusal, Outcome, accepted, refused, need}
use Rattle.codec.specs.Plans.{Unpacked, unpack}
use Rattle.codec.specs.Steps.{Opened, opening_at, all_nodes}
use Rattle.codec.proofs.Bounds.{Holds, holds_need, holds_then, holds_map, WordsIn, PlacedIn, OpenedIn, opening_holds, all_hold}
use Rattle.codec.proofs.Unpacking.{parts}

-- the words of 1 to 256 nodes, which the table has room for
pub record Counted (room : ℕ) (u : Unpacked) : Type 0 where
  pub count : ℕ
  pub low : 1 ≤ count
  pub high : count ≤ 256
  pub long : length u.words ≡ 17 * count
  pub fits : 17 * count ≤ room
  pub nodes : length u.words / 17 ≡ count

module _ (s : List ℕ) (room : ℕ) where
  holds : Holds (Counted room) (PlacedIn s 0) (unpack s room)
  holds =
      let next : Opened → Outcome Unpacked = λ o. need (leb (17 * o.count) room) 14 0 (all_nodes o.edition o.count s o.next) in
      rw (parts s room)
      (holds_then (OpenedIn s) (Counted room) (PlacedIn s 0) (opening_at s) next (opening_holds s)
      (λ c q.
      holds_need (Counted room) (PlacedIn s 0) (leb (17 * c.count) room) 14 0 (all_nodes c.edition c.count s c.next)
      (λ b.
      holds_map (WordsIn s c.next (17 * c.count)) (Counted room) (PlacedIn s c.next) (PlacedIn s 0) (all_nodes c.edition c.count s c.next)
      (λ u h. record { count = c.count; low = q.0; high = q.1; long = h.0; fits = leb-true (17 * c.count) room b; nodes = omega (arith, h.0) })
      (λ r h. (h.0, λ _. h.1 q.2)) (all_hold c.edition s c.next c.count))
      (omega arith, λ i. i)))

  pub unpack_count : {u : Unpacked} → unpack s room ≡ accepted u → Counted room u
  unpack_count e = subst (Holds (Counted room) (PlacedIn s 0)) e holds

  pub unpack_place : {r : Refusal} → unpack s room ≡ refused r → (r.number ≤ 26) × (r.place ≤ length s)
  unpack_place e = let h = subst (Holds (Counted room) (PlacedIn s 0)) e holds in (h.0, h.1 (omega arith))
