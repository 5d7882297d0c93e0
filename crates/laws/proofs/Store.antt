-- What a loop that writes place by place leaves in a buffer. In the laws for a loop m is the buffer so far, l what it was at first.
use Prim.Native.Nat.{ℕ, zero, suc, ◌+◌, ◌*◌, ◌≤◌, ◌<◌}
use native.Mathlib.Nat.{eq-or-lt_of_le, add-zero, add-suc, add_assoc, add-mul, one-mul}
use native.Mathlib.Numerals.{add-one}
use native.Mathlib.Omega.{arith}
use mathlib.Core.Path.{◌≡◌, refl, sym, ◌∙◌}
use mathlib.Core.List.{List, ◌++◌, append-nil, append_assoc}
use mathlib.Core.Logic.{⊎_elim}
use lib.ListN.{length, get_or, set, take, drop, length-set, length-append, take-append-drop}
use lib.Seq.{get_or-set_same, get_or-set_other, set_comm, set-set, set_at, set-get_or, drop-cons, append_snoc, length-take-le}
use Rattle.laws.specs.Lists.{tab}
use Rattle.laws.specs.Store.{store}
use Rattle.laws.proofs.Lists.{length_tab, tab_snoc}

module _ {A : Type 0} where
  -- a loop begins, takes a turn (the next value to the next place), ends
  pub store_none : (l : List A) (s : ℕ) (f : ℕ → A) → l ≡ store l s 0 f
  unfolding store
  store_none l s f = refl

  store_more : (l : List A) (s n : ℕ) (f : ℕ → A) → set (store l s n f) (s + n) (f n) ≡ store l s (n + 1) f
  unfolding store
  store_more l s n f = rw add-one

  pub store_step : (l m : List A) (s n : ℕ) (f : ℕ → A) (v : A) → m ≡ store l s n f → v ≡ f n → set m (s + n) v ≡ store l s (n + 1) f
  store_step l m s n f v e q = rw (e, q) (store_more l s n f)

  pub store_done : (l m : List A) (s i n : ℕ) (f : ℕ → A) → m ≡ store l s i f → i ≤ n → n ≤ i → m ≡ store l s n f
  store_done l m s i n f e p q = let h : i ≡ n = omega arith in rw h at e

  pub length_store : (l : List A) (s n : ℕ) (f : ℕ → A) → length (store l s n f) ≡ length l
  unfolding store
  length_store l s zero f = refl
  length_store l s (suc n) f = rw length-set (length_store l s n f)

  -- what stands where: before s and from s + n on what was there, between them what was written
  store_before : (l : List A) (s n : ℕ) (f : ℕ → A) (j : ℕ) (d : A) → j < s → get_or (store l s n f) j d ≡ get_or l j d
  unfolding store
  store_before l s zero f j d h = refl
  store_before l s (suc n) f j d h = get_or-set_other (store l s n f) (s + n) j (f n) d (λ e. omega arith) ∙ store_before l s n f j d h

  store_after : (l : List A) (s n : ℕ) (f : ℕ → A) (j : ℕ) (d : A) → s + n ≤ j → get_or (store l s n f) j d ≡ get_or l j d
  unfolding store
  store_after l s zero f j d h = refl
  store_after l s (suc n) f j d h = get_or-set_other (store l s n f) (s + n) j (f n) d (λ e. omega arith) ∙ store_after l s n f j d (omega arith)

  store_at : (l : List A) (s n : ℕ) (f : ℕ → A) (j : ℕ) (d : A) → j < n → s + n ≤ length l → get_or (store l s n f) (s + j) d ≡ f j
  unfolding store
  store_at l s zero f j d h q = absurd (omega arith)
  store_at l s (suc n) f j d h q =
      ⊎_elim
      (λ (p : j ≡ n). rw p (get_or-set_same (store l s n f) (s + n) (f n) d (rw length_store (omega arith))))
      (λ (p : j < n). get_or-set_other (store l s n f) (s + n) (s + j) (f n) d (λ e. omega arith) ∙ store_at l s n f j d p (omega arith))
      (eq-or-lt_of_le (omega arith))

  -- the same as reads in a loop; store_load for a place computed another way
  pub store_read : (l m : List A) (s n : ℕ) (f : ℕ → A) (j : ℕ) (d : A) → m ≡ store l s n f → j < s → get_or m j d ≡ get_or l j d
  store_read l m s n f j d e h = rw e (store_before l s n f j d h)

  pub store_load : (l m : List A) (s n : ℕ) (f : ℕ → A) (j j' : ℕ) (d : A) → m ≡ store l s n f → j ≡ j' → j < s → get_or m j d ≡ get_or l j' d
  store_load l m s n f j j' d e p h = rw (← p) (store_read l m s n f j d e h)

  pub store_ahead : (l m : List A) (s n : ℕ) (f : ℕ → A) (j : ℕ) (d : A) → m ≡ store l s n f → s + n ≤ j → get_or m j d ≡ get_or l j d
  store_ahead l m s n f j d e h = rw e (store_after l s n f j d h)

  pub store_hit : (l m : List A) (s n : ℕ) (f : ℕ → A) (j : ℕ) (d : A) → m ≡ store l s n f → j < n → s + n ≤ length l → get_or m (s + j) d ≡ f j
  store_hit l m s n f j d e h q = rw e (store_at l s n f j d h q)

  -- only the values of f below n matter
  pub store_same : (l : List A) (s n : ℕ) (f g : ℕ → A) → ((k : ℕ) → k < n → f k ≡ g k) → store l s n f ≡ store l s n g
  unfolding store
  store_same l s zero f g h = refl
  store_same l s (suc n) f g h = rw (h n (omega arith), store_same l s n f g (λ k q. h k (omega arith)))

  -- a block after a block, and the turn of an outer loop: block r, of b values, after r blocks
  pub store_append : (l : List A) (s a b : ℕ) (f : ℕ → A) → store (store l s a f) (s + a) b (λ (c : ℕ). f (a + c)) ≡ store l s (a + b) f
  unfolding store
  store_append l s a zero f = rw add-zero
  store_append l s a (suc b) f = rw (add-suc, add_assoc, store_append l s a b f)

  pub store_after_store : (l m m' : List A) (s a b : ℕ) (f g : ℕ → A) → m ≡ store l s a f → m' ≡ store m (s + a) b g
      → ((c : ℕ) → c < b → g c ≡ f (a + c)) → m' ≡ store l s (a + b) f
  store_after_store l m m' s a b f g e e' h = e' ∙ store_same m (s + a) b g (λ (c : ℕ). f (a + c)) h ∙ rw (e, store_append)

  pub store_block : (l m m' : List A) (s r b : ℕ) (f g : ℕ → A) → m ≡ store l s (r * b) f → m' ≡ store m (s + r * b) b g
      → ((c : ℕ) → c < b → g c ≡ f (r * b + c)) → m' ≡ store l s ((r + 1) * b) f
  store_block l m m' s r b f g e e' h = rw (add-mul, one-mul) (store_after_store l m m' s (r * b) b f g e e' h)

  -- each place with what it has
  pub store_own : (l : List A) (s n : ℕ) (d : A) → store l s n (λ (j : ℕ). get_or l (s + j) d) ≡ l
  unfolding store
  store_own l s zero d = refl
  store_own l s (suc n) d = rw (store_own l s n d) (set-get_or l (s + n) d)

  -- the same places written again
  store_out : (l : List A) (s n : ℕ) (g : ℕ → A) (k : ℕ) (x : A) → s + n ≤ k → store (set l k x) s n g ≡ set (store l s n g) k x
  unfolding store
  store_out l s zero g k x h = refl
  store_out l s (suc n) g k x h = rw (store_out l s n g k x (omega arith), set_comm (store l s n g) k (s + n) x (g n) (λ e. omega arith))

  store_over : (l : List A) (s n : ℕ) (f g : ℕ → A) → store (store l s n f) s n g ≡ store l s n g
  unfolding store
  store_over l s zero f g = refl
  store_over l s (suc n) f g = rw (store_out (store l s n f) s n g (s + n) (f n) (omega arith), set-set, store_over l s n f g)

  pub store_again : (l m m' : List A) (s n : ℕ) (f g h : ℕ → A) → m ≡ store l s n f → m' ≡ store m s n g
      → ((k : ℕ) → k < n → g k ≡ h k) → m' ≡ store l s n h
  store_again l m m' s n f g h e e' q = e' ∙ store_same m s n g h q ∙ rw (e, store_over)

  -- by lists: what is before, the values, what is after
  pub store_tab : (l : List A) (s n : ℕ) (f : ℕ → A) → s + n ≤ length l → store l s n f ≡ take s l ++ tab n f ++ drop (s + n) l
  unfolding store tab
  store_tab l s zero f h = rw (add-zero, append-nil) (sym (take-append-drop s l))
  store_tab l s (suc n) f h =
      let p : List A = take s l ++ tab n f in
      let e : length p ≡ s + n = length-append (take s l) (tab n f) ∙ omega (arith, length-take-le s l (omega arith), length_tab n f) in
      rw (tab_snoc n f, store_tab l s n f (omega arith), drop-cons l (s + n) (f n) (omega arith), add-suc, ← append_assoc)
      (set_at p (get_or l (s + n) (f n)) (drop (suc (s + n)) l) (f n) (s + n) e ∙ sym (append_snoc p (f n) (drop (suc (s + n)) l)))
