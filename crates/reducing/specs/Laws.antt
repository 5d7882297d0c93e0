-- What an operation keeps that folds cells.
use Rattle.std.specs.Prelude.{ℕ, ◌+◌, ◌≤◌}

pub record FoldLaws {A : Type 0} (op : A → A → A) (HasRoom : ℕ → A → Type 0) (Fits : A → Type 0) : Type 0 where
  -- one cell more takes the room of one
  pub takes : (n : ℕ) (x y : A) → HasRoom (n + 1) x → Fits y → HasRoom n (op x y)
  pub less : (n m : ℕ) (x : A) → HasRoom n x → m ≤ n → HasRoom m x
