-- Packed numbers as the code reads them: one law for each way through it.
use Prim.Native.Nat.{ℕ, zero, suc, ◌+◌, ◌*◌, ◌-◌, ◌%◌, ◌^◌, ◌≤◌, ◌<◌}
use mathlib.Core.Path.{◌≡◌, refl, ap, ◌∙◌}
use mathlib.Core.Bool.{Bool, true, false, ◌&&◌}
use mathlib.Core.List.{List}
use native.Mathlib.Nat.{le_refl, mod-lt, pow-succ', one-le-pow, mul-le-mul_left}
use native.Mathlib.Numerals.{sub-one}
use native.Mathlib.Omega.{arith}
use borrow.Author.Tests.{lt-ltb, le-ltb, eq-eqb, ne_eqb}
use lib.Dec.{ltb, eqb, lit<}
use lib.ListN.{length, get_or}
use Rattle.plan.specs.Answers.{Outcome, accepted, refused, refuse, and_then}
use Rattle.codec.specs.Numbers.{Read, groups_at, number_at}

-- v, and `scale` times the number that is read
abbrev pub added : ℕ → ℕ → Outcome Read → Outcome Read
added v scale o = and_then o (λ rest. accepted (record { value = v + scale * rest.value; next = rest.next }))

added_twice : (v m w k : ℕ) (o : Outcome Read) → added v m (added w k o) ≡ added (v + m * w) (m * k) o
added_twice v m w k (accepted r) =
    let e : v + m * (w + k * r.value) ≡ v + m * w + m * k * r.value = omega arith in
    rw e
added_twice v m w k (refused r) = refl

-- ---- the groups from `at` on, of a number that begins at `from`, where k more may come

module _ (s : List ℕ) (from at : ℕ) where
  no_groups : (k : ℕ) → k ≡ 0 → groups_at k s from at ≡ refuse 21 from
  unfolding groups_at
  no_groups zero h = refl
  no_groups (suc k) h = absurd (omega arith)

  bytes_end : (k : ℕ) → 0 < k → length s ≤ at → groups_at k s from at ≡ refuse 20 from
  unfolding groups_at
  bytes_end zero h l = absurd (omega arith)
  bytes_end (suc k) h l = simp (le-ltb _ _ l)

  module _ (b : ℕ) (is : b ≡ get_or s at 0) (l : at < length s) where
    padded : (k : ℕ) → 0 < k → b ≡ 0 → from < at → groups_at k s from at ≡ refuse 21 from
    unfolding groups_at
    padded zero h z m = absurd (omega arith)
    padded (suc k) h z m = rw (← is, z) (simp (lt-ltb _ _ l, lt-ltb _ _ m))

    pub last_group : (k : ℕ) → 0 < k → b < 128 → (eqb b 0 && ltb from at) ≡ false → groups_at k s from at ≡ accepted (record { value = b; next = at + 1 })
    unfolding groups_at
    last_group zero h q z = absurd (omega arith)
    last_group (suc k) h q z = rw (← is) (simp (lt-ltb _ _ l, lt-ltb _ _ q, z))

    pub more_groups : (k : ℕ) → 0 < k → 128 ≤ b → groups_at k s from at ≡ added (b % 128) 128 (groups_at (k - 1) s from (at + 1))
    unfolding groups_at
    more_groups zero h q = absurd (omega arith)
    more_groups (suc k) h q = rw (← is, sub-one) (simp (lt-ltb _ _ l, le-ltb _ _ q))

-- ---- the loop over them: v was read, and the next group counts `scale`

module _ (s : List ℕ) (from : ℕ) where
  -- `room`: the groups that may come keep the number below 128^5
  pub record Reached (v scale at k : ℕ) : Type 0 where
    pub number : number_at s from ≡ added v scale (groups_at k s from at)
    pub small : v < scale
    pub room : scale * 128 ^ k ≤ 34359738368

  pub reach_first : Reached 0 1 from 5
  unfolding number_at
  reach_first = record { number = by (groups_at 5 s from from); small = omega arith; room = omega arith }
    where
      by : (o : Outcome Read) → o ≡ added 0 1 o
      by (accepted r) = let e : 0 + 1 * r.value ≡ r.value = omega arith in rw e
      by (refused r) = refl

  -- after a first byte with its high bit
  pub reach_second : {b : ℕ} → from < length s → b ≡ get_or s from 0 → 128 ≤ b → Reached (b % 128) 128 (from + 1) 4
  unfolding number_at
  reach_second {b} l is q = record { number = more_groups s from from b is l 5 (lit< tt) q; small = mod-lt b {m = 128} (lit< tt); room = omega arith }

  module _ {v scale at k : ℕ} (h : Reached v scale at k) where
    pub reach_none : k ≤ 0 → refuse 21 from ≡ number_at s from
    reach_none z = rw (h.number, no_groups s from at k (omega arith))

    module _ (more : 0 < k) where
      room_next : scale * 128 * 128 ^ (k - 1) ≤ 34359738368
      room_next = by k more h.room
        where
          by : (k : ℕ) → 0 < k → scale * 128 ^ k ≤ 34359738368 → scale * 128 * 128 ^ (k - 1) ≤ 34359738368
          by zero m r = absurd (omega arith)
          by (suc j) m r = rw sub-one (omega (arith, ap (λ (n : ℕ). scale * n) (pow-succ' 128 j)))

      pub scale_fits : scale * 128 ≤ 34359738368
      scale_fits = omega (arith, room_next, mul-le-mul_left (scale * 128) (one-le-pow (k - 1) 128 (lit< tt)))

      pub group_fits : (b : ℕ) → b < 128 → v + scale * b < 34359738368
      group_fits b q = omega (arith, h.small, scale_fits, mul-le-mul_left scale q)

      pub reach_end : length s ≤ at → refuse 20 from ≡ number_at s from
      reach_end l = rw (h.number, bytes_end s from at k more l)

      module _ {b : ℕ} (is : b ≡ get_or s at 0) (l : at < length s) where
        pub reach_padded : b ≡ 0 → from < at → refuse 21 from ≡ number_at s from
        reach_padded z m = rw (h.number, padded s from at b is l k more z m)

        pub reach_last : b < 128 → (eqb b 0 && ltb from at) ≡ false → accepted (record { value = v + scale * b; next = at + 1 }) ≡ number_at s from
        reach_last q z = rw (h.number, last_group s from at b is l k more q z)

        pub reach_next : 128 ≤ b → Reached (v + scale * (b % 128)) (scale * 128) (at + 1) (k - 1)
        reach_next q =
            record {
              number = h.number ∙ ap (added v scale) (more_groups s from at b is l k more q) ∙ added_twice v scale (b % 128) 128 (groups_at (k - 1) s from (at + 1));
              small = omega (arith, h.small, mul-le-mul_left scale (mod-lt b {m = 128} (lit< tt)));
              room = room_next;
            }

-- whether a byte after the first is a last byte of 0
module _ (from at b : ℕ) where
  pub last_zero : from < at → b ≡ 0 → (eqb b 0 && ltb from at) ≡ true
  last_zero l z = simp (eq-eqb b 0 z, lt-ltb from at l)

  pub last_other : (b ≡ 0 → ⊥) → (eqb b 0 && ltb from at) ≡ false
  last_other z = simp (ne_eqb b 0 z)

pub ruleset reach-laws = (reach_none, reach_end, reach_padded, reach_last, last_other)

-- no byte of a number
pub no_byte : (s : List ℕ) (at : ℕ) → length s ≤ at → refuse 20 at ≡ number_at s at
unfolding number_at
no_byte s at l = rw (bytes_end s at at 5 (lit< tt) l)

-- a number of one byte
pub one_byte : (s : List ℕ) (at b : ℕ) → b ≡ get_or s at 0 → at < length s → b < 128 → accepted (record { value = b; next = at + 1 }) ≡ number_at s at
unfolding number_at
one_byte s at b is l q = rw (last_group s at at b is l 5 (omega arith) q (by (eqb b 0)))
  where
    by : (t : Bool) → (t && ltb at at) ≡ false
    by true = le-ltb at at (le_refl at)
    by false = refl
