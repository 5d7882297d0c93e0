-- The maps of Sources.antt are those of Coordinates.antt: what each says of coordinates, and that this leaves one element.
use Prim.Native.Nat.{ℕ, ◌+◌, ◌-◌, ◌<◌, ◌≤◌}
use mathlib.Core.Path.{◌≡◌, refl, ap, sym, ◌∙◌}
use mathlib.Core.Bool.{true, ◌||◌, cond}
use mathlib.Core.Logic.{inl, inr, ⊎_elim}
use mathlib.Core.Option.{Option, none, some}
use mathlib.Core.List.{List}
use native.Mathlib.Omega.{arith}
use borrow.Author.Tests.{eqb-true, eqb-false, eq-eqb, ne_eqb, leb-true, le-leb, lt-ltb}
use lib.Dec.{eqb, leb}
use lib.ListN.{length, get_or}
use Rattle.laws.specs.Lists.{among}
use Rattle.laws.specs.Numbering.{count, ravel, coord}
use Rattle.laws.proofs.Booleans.{bool_cases, cond_both, and_true, and_true_of, all_below_lem, all_below_of}
use Rattle.laws.proofs.Lists.{get_or_tab}
use Rattle.laws.proofs.Numbering.{Stands, ravel_stands, coord_lt, coord_same}
use Rattle.plan.specs.declared.Node.{Node}
use Rattle.plan.specs.declared.ElementNumber.{ElementNumber}
use Rattle.plan.specs.Operations.{followed, by_operation}
use Rattle.plan.specs.Words.{list_of, element}
use Rattle.plan.proofs.ByOperation.{◌then◌, for_group, for_range}
use Rattle.shapes.specs.Rows.{extents_of, is_permutation}
use Rattle.shapes.specs.Rules.{extent, word_of, flagged, same_rank, permuted, reduced, gathered_extents, shapes_agree, result_extents}
use Rattle.shapes.specs.Sources.{flip_source, expand_source, in_source, pad_source, shrink_source, source_rules, source_element, Below, broadcast_source, reduce_source, gathered}
use Rattle.shapes.specs.Coordinates.{PermutedFrom, FlippedFrom, ExpandedFrom, PaddedFrom, ShrunkFrom, BroadcastFrom, AgreesOff, Followed, ComesFrom, NewCell, Gathers}
use Rattle.shapes.proofs.Extents.{Positive, gathered_length}
use Rattle.shapes.proofs.Broadcast.{Spreads, spread_stands, expand_spread}
use Rattle.shapes.proofs.Sources.{permute_below, permute_coordinate, axis_there, pad_axis, pad_stands, expand_spreads, along, reduce_stands, gathered_count_lem, gathered_some, gathered_below}

-- ---- "nodes 2–7 and 20", as a list and in numbers

pub is_followed : {op : ℕ} → among op followed ≡ true → Followed op
unfolding among
is_followed {op} =
    for_group Followed op followed
    (inl (omega arith) then inl (omega arith) then inl (omega arith) then inl (omega arith) then inl (omega arith) then inl (omega arith) then inr refl then tt)

pub followed_is : {op : ℕ} → Followed op → among op followed ≡ true
unfolding among
followed_is {op} =
    ⊎_elim
    (λ (h : (2 ≤ op) × (op ≤ 7)).
    for_range (λ (k : ℕ). among k followed ≡ true) op 2 6 (refl then refl then refl then refl then refl then refl then tt) h.0 (omega (arith, h.1)))
    (λ (e : op ≡ 20). rw e refl)

some_none : {A : Type 0} {a : A} → some a ≡ none → ⊥
some_none e = let z : ◌≡◌ {A = ℕ} 0 1 = cc in omega arith

-- ---- each map: the element lies in the source, and its coordinates are those of the result

abbrev Lands : List ℕ → (ℕ → Type 0) → ℕ → Type 0
Lands s From o = (o < count s) × From o

-- where there is an element of the source
LandsAt : List ℕ → (ℕ → Type 0) → Option ElementNumber → Type 0
LandsAt s From none = Unit
LandsAt s From (some o) = Lands s From o.0

lands_below : (s : List ℕ) (From : ℕ → Type 0) (o : Option ElementNumber) → LandsAt s From o → Below (count s) o
unfolding LandsAt
lands_below s From none at = tt
lands_below s From (some o) at = at.0

module _ (s flags : List ℕ) (e : ℕ) (h : e < count s) where
  flip_lands : Lands s (λ (o : ℕ). FlippedFrom s s flags o e) (flip_source s s flags e)
  unfolding flip_source
  flip_lands =
      let at = ravel_stands s _ below in (
        at.inside,
        λ k q. (
          λ f. omega (arith, rw (eq-eqb (word_of flags k) 1 f) at (at.coordinate k q), coord_lt s e h k q),
          λ f. rw (ne_eqb (word_of flags k) 1 f) at (at.coordinate k q),
        ),
      )
    where
      below : (k : ℕ) → k < length s → cond (flagged flags k) (extent s k - 1 - coord s e k) (coord s e k) < extent s k
      below k q =
          let c : coord s e k < extent s k = coord_lt s e h k q in
          cond_both (λ (i : ℕ). i < extent s k) (flagged flags k) _ _ (λ r. omega arith) (λ r. c)

pub broadcast_from : {s r : List ℕ} → Spreads s r → (e : ElementNumber) → e.0 < count r
    → ((broadcast_source s r e).0 < count s) × BroadcastFrom s r (broadcast_source s r e).0 e.0
broadcast_from {s} {r} f e h =
    let at = spread_stands f e h in
    (at.inside, λ k q n. rw (ne_eqb (extent s k) 1 n) at (at.coordinate k q))

module _ (s r : List ℕ) (e : ℕ) where
  expand_lands : same_rank s r (λ (k : ℕ). eqb (extent s k) 1 || eqb (extent s k) (extent r k)) ≡ true → e < count r → Lands s (λ (o : ℕ). ExpandedFrom s r o e) (expand_source s r e)
  unfolding same_rank
  expand_lands f h =
      let l : length s ≡ length r = eqb-true _ _ (and_true (eqb (length s) (length r)) _ f).0 in
      let at = broadcast_from (expand_spreads s r f) (element e) h in
      rw (expand_spread s r e l) (at.0, λ k q n. at.1 k q n ∙ ap (coord r e) (omega arith))

  shrink_lands : (o : List ℕ) → same_rank s r (λ (k : ℕ). leb (word_of o k + extent r k) (extent s k)) ≡ true → e < count r → Lands s (λ (m : ℕ). ShrunkFrom s r o m e) (shrink_source s r o e)
  unfolding shrink_source same_rank
  shrink_lands o f h =
      let at = ravel_stands s _ below in
      (at.inside, λ k q. omega (arith, at.coordinate k q))
    where
      below : (k : ℕ) → k < length s → coord r e k + word_of o k < extent s k
      below k q =
          let both = and_true (eqb (length s) (length r)) _ f in
          let l : length s ≡ length r = eqb-true _ _ both.0 in
          let fit : word_of o k + extent r k ≤ extent s k = leb-true _ _ (all_below_lem (length s) _ both.1 k q) in
          omega (arith, coord_lt r e h k (omega arith))

  pad_lands : (o : List ℕ) → LandsAt s (λ (m : ℕ). PaddedFrom s r o m e) (pad_source s r o e)
  unfolding LandsAt pad_source
  pad_lands o =
      cond_both (LandsAt s (λ (m : ℕ). PaddedFrom s r o m e)) (in_source s r o e) _ none
      (λ f. let at = pad_stands s r o e f in (at.inside, λ k q. omega (arith, at.coordinate k q, (pad_axis s r o e f k q).0)))
      (λ f. tt)

  -- an element of the source is no new cell
  pad_found : (o : List ℕ) (m : ℕ) → m < count s → PaddedFrom s r o m e → pad_source s r o e ≡ none → ⊥
  unfolding pad_source in_source
  pad_found o m h f n =
      let here : in_source s r o e ≡ true = all_below_of (length s) _ (λ k q.
      and_true_of _ _ (le-leb (word_of o k) (coord r e k) (omega (arith, f k q))) (lt-ltb (coord r e k) (word_of o k + extent s k) (omega (arith, f k q, coord_lt s m h k q)))) in
      some_none (rw here at n)

-- ---- coordinates leave one element

-- along an extent of 1 every element has coordinate 0
off_ones : (s : List ℕ) (c : ℕ → ℕ) (o p : ℕ) → o < count s → p < count s
    → ((k : ℕ) → k < length s → (extent s k ≡ 1 → ⊥) → coord s o k ≡ c k) → ((k : ℕ) → k < length s → (extent s k ≡ 1 → ⊥) → coord s p k ≡ c k) → o ≡ p
off_ones s c o p h g f f' =
    coord_same s o p h g (λ k q.
    bool_cases (eqb (extent s k) 1)
    (λ one. let z : extent s k ≡ 1 = eqb-true (extent s k) 1 one in omega (arith, coord_lt s o h k q, coord_lt s p g k q))
    (λ other. let z = eqb-false (extent s k) 1 other in f k q z ∙ sym (f' k q z)))

pub broadcast_once : (s r : List ℕ) (e o p : ℕ) → o < count s → p < count s → BroadcastFrom s r o e → BroadcastFrom s r p e → o ≡ p
broadcast_once s r e = off_ones s (λ (k : ℕ). coord r e (length r - length s + k))

pub comes_once : (op : ℕ) (s r a b : List ℕ) (e o p : ℕ) → (op ≡ 2 → is_permutation (length s) a ≡ true) → ComesFrom op s r a b o e → ComesFrom op s r a b p e → o ≡ p
comes_once op s r a b e o p row f g =
    ⊎_elim
    (λ (h : (2 ≤ op) × (op ≤ 7)).
    for_range (λ (k : ℕ). op ≡ k → o ≡ p) op 2 6
    ((λ q. same (λ m l. let w = axis_there s a (row q) m l in rw w.2 at (f.permute q w.0 w.1 ∙ sym (g.permute q w.0 w.1))))
    then (λ q. same (λ k l. bool_cases (eqb (word_of a k) 1)
    (λ z. let y = eqb-true (word_of a k) 1 z in omega (arith, (f.flip q k l).0 y, (g.flip q k l).0 y))
    (λ z. let y = eqb-false (word_of a k) 1 z in (f.flip q k l).1 y ∙ sym ((g.flip q k l).1 y))))
    then (λ q. f.reshape q ∙ sym (g.reshape q))
    then (λ q. off_ones s (coord r e) o p f.inside g.inside (f.expand q) (g.expand q))
    then (λ q. same (λ k l. omega (arith, f.pad q k l, g.pad q k l)))
    then (λ q. same (λ k l. f.shrink q k l ∙ sym (g.shrink q k l)))
    then tt) h.0 (omega (arith, h.1)) refl)
    (λ (q : op ≡ 20). f.load q ∙ sym (g.load q))
    f.followed
  where
    same : ((k : ℕ) → k < length s → coord s o k ≡ coord s p k) → o ≡ p
    same = coord_same s o p f.inside g.inside

-- ---- by operation

-- only a PAD has a cell that comes from nowhere
pub source_none : (x : Node) (s r : List ℕ) (e : ElementNumber) → among x.op followed ≡ true → source_element x s r e ≡ none
    → (x.op ≡ 6) × NewCell s r (list_of x.rowb) e.0
unfolding source_element among
source_none x s r e f =
    for_group (λ (k : ℕ). by_operation k (source_rules x s r e) none ≡ none → (k ≡ 6) × NewCell s r (list_of x.rowb) e.0) x.op followed
    (never then never then never then never
    then (λ n. (refl, λ o h p. pad_found s r e.0 (list_of x.rowb) o h p n))
    then never then never then tt) f
  where
    never : {A G : Type 0} {a : A} → some a ≡ none → G
    never n = absurd (some_none n)

module _ (x : Node) (s t u r : List ℕ) (e : ElementNumber) (agree : shapes_agree x s t u ≡ true) (shape : r ≡ result_extents x s t u)
    (row : x.op ≡ 2 → is_permutation (length s) (list_of x.rowa) ≡ true) (h : e.0 < count r) where
  of_permute : x.op ≡ 2 → LandsAt s (λ (o : ℕ). PermutedFrom s r (list_of x.rowa) o e.0) (source_element x s r e)
  unfolding LandsAt source_element result_extents among
  of_permute q =
      let z : r ≡ permuted s (list_of x.rowa) = shape ∙ rw q refl in
      let h' : e.0 < count (permuted s (list_of x.rowa)) = rw z at h in
      rw (q, z) (permute_below s (list_of x.rowa) (row q) e.0 h', permute_coordinate s x.rowa e.0 (row q) h')

  of_flip : x.op ≡ 3 → LandsAt s (λ (o : ℕ). FlippedFrom s r (list_of x.rowa) o e.0) (source_element x s r e)
  unfolding LandsAt source_element result_extents among
  of_flip q =
      let z : r ≡ s = shape ∙ rw q refl in
      rw (q, z) (flip_lands s (list_of x.rowa) e.0 (rw z at h))

  of_reshape : x.op ≡ 4 → LandsAt s (λ (o : ℕ). o ≡ e.0) (source_element x s r e)
  unfolding LandsAt source_element result_extents shapes_agree among
  of_reshape q =
      let z : r ≡ extents_of (list_of x.rowa) = shape ∙ rw q refl in
      let a : eqb (count s) (count (extents_of (list_of x.rowa))) ≡ true = rw q at agree in
      let k : count s ≡ count r = eqb-true _ _ a ∙ ap count (sym z) in
      rw q (omega arith, refl)

  of_expand : x.op ≡ 5 → LandsAt s (λ (o : ℕ). ExpandedFrom s r o e.0) (source_element x s r e)
  unfolding LandsAt source_element result_extents shapes_agree among
  of_expand q =
      let z : r ≡ extents_of (list_of x.rowa) = shape ∙ rw q refl in
      rw q (expand_lands s r e.0 (rw (q, ← z) at agree) h)

  of_pad : x.op ≡ 6 → LandsAt s (λ (o : ℕ). PaddedFrom s r (list_of x.rowb) o e.0) (source_element x s r e)
  unfolding LandsAt source_element among
  of_pad q = rw q (pad_lands s r e.0 (list_of x.rowb))

  of_shrink : x.op ≡ 7 → LandsAt s (λ (o : ℕ). ShrunkFrom s r (list_of x.rowb) o e.0) (source_element x s r e)
  unfolding LandsAt source_element result_extents shapes_agree among
  of_shrink q =
      let z : r ≡ extents_of (list_of x.rowa) = shape ∙ rw q refl in
      rw q (shrink_lands s r e.0 (list_of x.rowb) (rw (q, ← z) at agree) h)

  of_load : x.op ≡ 20 → LandsAt s (λ (o : ℕ). o ≡ e.0) (source_element x s r e)
  unfolding LandsAt source_element result_extents among
  of_load q =
      let z : r ≡ s = shape ∙ rw q refl in
      rw q (rw (← z) h, refl)

  -- the source element of an element is the element that it comes from, and lies in the source
  pub source_below : among x.op followed ≡ true → Below (count s) (source_element x s r e)
  source_below f =
      for_group (λ (k : ℕ). x.op ≡ k → Below (count s) (source_element x s r e)) x.op followed
      ((λ q. lands_below _ _ _ (of_permute q)) then (λ q. lands_below _ _ _ (of_flip q)) then (λ q. lands_below _ _ _ (of_reshape q))
      then (λ q. lands_below _ _ _ (of_expand q)) then (λ q. lands_below _ _ _ (of_pad q)) then (λ q. lands_below _ _ _ (of_shrink q))
      then (λ q. lands_below _ _ _ (of_load q)) then tt) f refl

  pub source_from : among x.op followed ≡ true → (o : ElementNumber) → source_element x s r e ≡ some o
      → ComesFrom x.op s r (list_of x.rowa) (list_of x.rowb) o.0 e.0
  unfolding LandsAt
  source_from f o found =
      record {
        followed = is_followed f;
        inside = rw found at (source_below f);
        permute = λ q. (rw found at (of_permute q)).1;
        flip = λ q. (rw found at (of_flip q)).1;
        reshape = λ q. (rw found at (of_reshape q)).1;
        expand = λ q. (rw found at (of_expand q)).1;
        pad = λ q. (rw found at (of_pad q)).1;
        shrink = λ q. (rw found at (of_shrink q)).1;
        load = λ q. (rw found at (of_load q)).1;
      }

  -- and the other way
  pub from_source_lem : (o : ElementNumber) → ComesFrom x.op s r (list_of x.rowa) (list_of x.rowb) o.0 e.0 → source_element x s r e ≡ some o
  from_source_lem o c = by (source_element x s r e) refl
    where
      by : (m : Option ElementNumber) → source_element x s r e ≡ m → m ≡ some o
      by none q = let new = source_none x s r e (followed_is c.followed) q in absurd (new.1 o.0 c.inside (c.pad new.0))
      by (some m) q =
          ap (λ (k : ℕ). some (element k))
          (comes_once x.op s r _ _ e.0 m.0 o.0 row (source_from (followed_is c.followed) m q) c)

  pub none_source : x.op ≡ 6 → NewCell s r (list_of x.rowb) e.0 → source_element x s r e ≡ none
  none_source pads new = by (source_element x s r e) refl
    where
      by : (m : Option ElementNumber) → source_element x s r e ≡ m → m ≡ none
      by none q = refl
      by (some m) q = let c = source_from (followed_is (inl (omega (arith, pads)))) m q in absurd (new m.0 c.inside (c.pad pads))

-- ---- REDUCE

-- where element o of the source stands among those gathered: by its coordinates along the flagged axes
abbrev turn_of : List ℕ → List ℕ → ℕ → ℕ
turn_of s flags o = ravel (gathered_extents s flags) (λ (k : ℕ). cond (flagged flags k) (coord s o k) 0)

module _ (s flags : List ℕ) (e : ElementNumber) (h : e.0 < count (reduced s flags)) where
  reduce_agrees : (i : ℕ) → i < count (gathered_extents s flags) → AgreesOff s (reduced s flags) flags (reduce_source s flags e i).0 e.0
  reduce_agrees i g k q n = rw (ne_eqb (word_of flags k) 1 n) at ((reduce_stands s flags e i h g).coordinate k q)

  -- an element that agrees off the flagged axes is gathered
  module _ (o : ℕ) (l : o < count s) (a : AgreesOff s (reduced s flags) flags o e.0) where
    turn : Stands (gathered_extents s flags) (λ (k : ℕ). cond (flagged flags k) (coord s o k) 0) (turn_of s flags o)
    turn =
        ravel_stands (gathered_extents s flags) _ (λ k q.
        let q' : k < length s = rw gathered_length at q in
        rw (along s flags k q') (bool_cases (flagged flags k) (λ f. rw f (coord_lt s o l k q')) (λ f. rw f (omega arith))))

    gathered_there : (reduce_source s flags e (turn_of s flags o)).0 ≡ o
    gathered_there =
        let at = reduce_stands s flags e (turn_of s flags o) h turn.inside in
        coord_same s _ o at.inside l (λ k q.
        bool_cases (flagged flags k)
        (λ f. rw f at (at.coordinate k q) ∙ rw f at (turn.coordinate k (rw gathered_length q)))
        (λ f. rw f at (at.coordinate k q) ∙ sym (a k q (eqb-false (word_of flags k) 1 f))))

  gathered_once : (i j : ℕ) → i < count (gathered_extents s flags) → j < count (gathered_extents s flags) → (reduce_source s flags e i).0 ≡ (reduce_source s flags e j).0 → i ≡ j
  gathered_once i j g g' z =
      coord_same (gathered_extents s flags) i j g g' (λ k q.
      let q' : k < length s = rw gathered_length at q in
      let c = (reduce_stands s flags e i h g).coordinate k q' in
      let c' = (reduce_stands s flags e j h g').coordinate k q' in
      bool_cases (flagged flags k)
      (λ f. sym (rw f at c) ∙ ap (λ (m : ℕ). coord s m k) z ∙ rw f at c')
      (λ f.
      let one : extent (gathered_extents s flags) k ≡ 1 = rw (along s flags k q', f) refl in
      omega (arith, coord_lt (gathered_extents s flags) i g k q, coord_lt (gathered_extents s flags) j g' k q)))

  pub gathers : Positive s → Gathers s (reduced s flags) flags e.0 (gathered s flags e)
  unfolding gathered
  gathers p =
      record {
        never_empty = gathered_some s flags e p;
        inside = λ i g. gathered_below s flags e i h g;
        agrees = λ i g. rw (at i (below i g)) (reduce_agrees i (below i g));
        all = λ o l a. (turn_of s flags o, rw gathered_count_lem (turn o l a).inside, rw (at (turn_of s flags o) (turn o l a).inside) (gathered_there o l a));
        once = λ i j g g' z. gathered_once i j (below i g) (below j g') (rw (at i (below i g), at j (below j g')) at z);
      }
    where
      below : (i : ℕ) → i < length (gathered s flags e) → i < count (gathered_extents s flags)
      below i g = rw gathered_count_lem at g

      at : (i : ℕ) → i < count (gathered_extents s flags) → get_or (gathered s flags e) i (element 0) ≡ reduce_source s flags e i
      at i g = get_or_tab (count (gathered_extents s flags)) (reduce_source s flags e) i (element 0) g
