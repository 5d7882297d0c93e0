-- Acceptance and refusal, both ways.
use Prim.Native.Nat.{ℕ, ◌/◌, ◌%◌}
use mathlib.Core.Path.{◌≡◌, sym, ◌∙◌, subst}
use mathlib.Core.Bool.{true, false≢true}
use mathlib.Core.List.{List}
use native.Mathlib.Omega.{arith}
use borrow.Author.Tests.{eqb-true, eq-eqb, le-leb}
use lib.IntN.{ℤ}
use lib.Dec.{eqb}
use lib.ListN.{length}
use Rattle.laws.proofs.Booleans.{bool_cases, and_true, and_true_of}
use Rattle.plan.specs.Words.{node_count, length_right}
use Rattle.plan.specs.Answers.{Refusal}
use Rattle.rules.specs.Rules.{Derived}
use Rattle.verifier.specs.Meets.{NodesMeet, PlanMeets}
use Rattle.verifier.specs.Meets as meets
use Rattle.verifier.proofs.Numbers.{few_nodes}
use Rattle.verifier.proofs.Accepted.{accepted_meets, meets_accepted, refused_because, because_refused}
use Rattle.guarantees.specs.Acceptance.{Nodes, Accepts, Refuses, bad_length, bad_node, too_many, Acceptance}

-- ---- rule 1

module _ (t : List ℤ) where
  pub whole : length_right t ≡ true → Nodes t (node_count t)
  unfolding length_right node_count
  whole e =
      let few = few_nodes t e in
      record { words = omega (arith, eqb-true (length t % 17) 0 (and_true (eqb (length t % 17) 0) _ e).0); some = few.0; few = few.1 }

  pub counted : (m : ℕ) → Nodes t m → node_count t ≡ m
  unfolding node_count
  counted m w = omega (arith, w.words)

  pub right : (m : ℕ) → Nodes t m → length_right t ≡ true
  unfolding length_right node_count
  right m w =
      let c = counted m w in
      and_true_of _ _ (eq-eqb (length t % 17) 0 (omega (arith, w.words))) (and_true_of _ _ (le-leb 1 (length t / 17) (omega (arith, c, w.some))) (le-leb (length t / 17) 256 (omega (arith, c, w.few))))

  -- ---- the whole plan

  module _ (ds : List Derived) where
    accepts : PlanMeets t ds → Accepts t ds
    accepts m =
        let e = sym m.nodes.as_many in
        record { nodes = subst (Nodes t) e (whole m.length_right); each = subst (λ (n : ℕ). NodesMeet t n ds) e m.nodes; total = m.total }

    meets_all : Accepts t ds → PlanMeets t ds
    meets_all a =
        let e = sym (counted (length ds) a.nodes) in
        record { length_right = right (length ds) a.nodes; nodes = subst (λ (n : ℕ). NodesMeet t n ds) e a.each; total = a.total }

  refuses : {r : Refusal} → meets.Refuses t r → Refuses t r
  refuses (meets.bad_length e) = bad_length (λ m w. false≢true (sym e ∙ right m w))
  refuses (meets.bad_node e l m low high smaller fails) = bad_node (whole e) l m low high smaller fails
  refuses (meets.too_many {ds} e m h) =
      let z = sym m.as_many in
      too_many (subst (Nodes t) z (whole e)) (subst (λ (n : ℕ). NodesMeet t n ds) z m) h

  refused_of : {r : Refusal} → Refuses t r → meets.Refuses t r
  refused_of (bad_length h) = meets.bad_length (bool_cases (length_right t) (λ e. absurd (h (node_count t) (whole e))) (λ e. e))
  refused_of (bad_node {m} {n} w l before low high smaller fails) = meets.bad_node {n = n} (right m w) (omega (arith, counted m w, l)) before low high smaller fails
  refused_of (too_many {ds} w m h) = meets.too_many (right (length ds) w) (subst (λ (n : ℕ). NodesMeet t n ds) (sym (counted (length ds) w)) m) h

pub acceptance : Acceptance
acceptance =
    record {
      accepted_when = λ t ds. (λ e. accepts t ds (accepted_meets t ds e), λ a. meets_accepted t ds (meets_all t ds a));
      refused_when = λ t r. (λ e. refuses t (refused_because t r e), λ w. because_refused t r (refused_of t w));
    }
