-- Packed numbers.
use Rattle.std.specs.Prelude.{ℕ, zero, suc, ◌+◌, ◌*◌, ◌/◌, ◌%◌, ◌&&◌, not, cond, List, length, get_or, ltb, eqb, ℤ, pos, negsuc}
use Rattle.plan.specs.Answers.{Outcome, accepted, refuse, need, and_then}

-- a number that was read, and the position after it
pub record Read : Type 0 where
  pub value : ℕ
  pub next : ℕ

-- "Numbers are written in groups of seven bits, lowest first, the high bit of a byte set when more follow, shortest form, at most 5 bytes."
-- "20: bytes end before or inside a number; 21: fifth byte has its high bit, or a later last byte is 0; its first byte."
-- The number that began at `from`, read on at `at`, with at most k bytes left to it. With none left the fifth byte had its high bit.
unfoldable pub groups_at : ℕ → List ℕ → ℕ → ℕ → Outcome Read
groups_at zero s from at = refuse 21 from
groups_at (suc k) s from at =
    let byte = get_or s at 0 in
    need (ltb at (length s)) 20 from
    (cond (ltb byte 128)
    (need (not (eqb byte 0 && ltb from at)) 21 from (accepted (record { value = byte; next = at + 1 })))
    (and_then (groups_at k s from (at + 1)) (λ rest. accepted (record { value = byte % 128 + 128 * rest.value; next = rest.next }))))

unfoldable pub number_at : List ℕ → ℕ → Outcome Read
number_at s at = groups_at 5 s at at

-- "other words n are written as 2n, or −2n−1 below zero"
unfoldable pub word_of : ℕ → ℤ
word_of m = cond (eqb (m % 2) 0) (pos (m / 2)) (negsuc (m / 2))
