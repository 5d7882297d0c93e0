-- The check: when it is accepted, which of 14 and the plan's own refusals is given, and what it writes, word by word.
use Rattle.std.specs.Prelude.{ℕ, ◌+◌, ◌*◌, ◌<◌, ◌≤◌, ◌≡◌, List, ℤ, pos, length, get_or, drop}
use Rattle.plan.specs.Answers.{Refusal, accepted, refused, refuse}
use Rattle.rules.specs.Rules.{Derived, no_source}
use Rattle.verifier.specs.Check.{verdict, check, check_answer, derived_after}
use Rattle.guarantees.specs.Rules.{Exactly}

-- "eight words a node: type, device, low, high, four extents (zeros past the rank)": those of node n, whose record is d
pub record RecordWords (d : Derived) (buffer : List ℤ) (n : ℕ) : Type 0 where
  pub dtype : get_or buffer (8 * n) (pos 0) ≡ pos d.dtype
  pub device : get_or buffer (8 * n + 1) (pos 0) ≡ pos d.device
  pub low : get_or buffer (8 * n + 2) (pos 0) ≡ d.bounds.low
  pub high : get_or buffer (8 * n + 3) (pos 0) ≡ d.bounds.high
  pub extents : (k : ℕ) → k < length d.extents → get_or buffer (8 * n + 4 + k) (pos 0) ≡ pos (get_or d.extents k 1)
  pub zeros : (k : ℕ) → length d.extents ≤ k → k < 4 → get_or buffer (8 * n + 4 + k) (pos 0) ≡ pos 0

-- what an accepted check leaves
pub record CheckWrites (ds : List Derived) (before after : List ℤ) : Type 0 where
  pub each : (n : ℕ) → n < length ds → RecordWords (get_or ds n no_source) after n
  pub past : drop (8 * length ds) after ≡ drop (8 * length ds) before
  pub as_long : length after ≡ length before

pub record ChecksExactly : Type 0 where
  -- "14: a buffer written to is too short", after the plan's own refusals
  pub refused_when : (t : List ℤ) (room : ℕ) (r : Refusal) → verdict t ≡ refused r → check t room ≡ refused r
  pub no_room : (t : List ℤ) (ds : List Derived) (room : ℕ) → verdict t ≡ accepted ds → Exactly (check t room ≡ refuse 14 0) (room < 8 * length ds)
  pub accepted_when : (t : List ℤ) (ds : List Derived) (room : ℕ) → Exactly (check t room ≡ accepted ds) ((verdict t ≡ accepted ds) × (8 * length ds ≤ room))
  -- "0 is accepted, place 0, gap count 0 outside a run"
  pub answers : (t derived : List ℤ) (ds : List Derived) → check t (length derived) ≡ accepted ds → check_answer (check t (length derived)) ≡ record { number = 0; place = 0; count = 0 }
  pub writes : (t derived : List ℤ) (ds : List Derived) → check t (length derived) ≡ accepted ds → CheckWrites ds derived (derived_after (check t (length derived)) derived)
