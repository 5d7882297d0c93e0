-- What a loop leaves in a buffer.
use Rattle.std.specs.Prelude.{ℕ, zero, suc, ◌+◌, List, set}

-- l with f 0, .., f (n - 1) written from place s on
unfoldable pub store : {A : Type 0} → List A → ℕ → ℕ → (ℕ → A) → List A
store l s zero f = l
store l s (suc n) f = set (store l s n f) (s + n) (f n)
