-- The words of a node.
use Rattle.std.specs.Prelude.{ℕ, zero, suc, ◌+◌, ◌*◌, ◌/◌, ◌%◌, Bool, ◌&&◌, ◌||◌, cond, not, List, [], ◌∷◌, ℤ, pos, negsuc, eqb, leb, length, get_or, take, drop}
use Rattle.laws.specs.Lists.{all_below}
use Rattle.plan.specs.declared.NodeNumber.{NodeNumber}
use Rattle.plan.specs.declared.ElementNumber.{ElementNumber}
use Rattle.plan.specs.declared.Row.{Row}
use Rattle.plan.specs.declared.Node.{Node}
use Rattle.plan.specs.Operations.{PARAM, uses, STACK}

-- "A plan is a table of 1 to 256 nodes, each of 17 signed 64-bit words."
abbrev pub words_per_node : ℕ
words_per_node = 17

abbrev pub node_limit : ℕ
node_limit = 256

-- "A node number and an element number are never taken for each other; they are kept as two kinds."
abbrev pub node : ℕ → NodeNumber
node n = record { 0 = n }

abbrev pub element : ℕ → ElementNumber
element e = record { 0 = e }

-- A word as a count. A negative word becomes 2^64 − 1: more than the paper lets any count be, so every rule that it breaks stays broken.
unfoldable pub size_of : ℤ → ℕ
size_of (pos n) = n
size_of (negsuc n) = 18446744073709551615

abbrev pub word_at : List ℤ → ℕ → ℤ
word_at w k = get_or w k (pos 0)

abbrev pub size_at : List ℤ → ℕ → ℕ
size_at w k = size_of (word_at w k)

abbrev pub row_at : List ℤ → ℕ → Row
row_at w k = record { r0 = size_at w k; r1 = size_at w (k + 1); r2 = size_at w (k + 2); r3 = size_at w (k + 3) }

-- the four words of a row as a list
abbrev pub list_of : Row → List ℕ
list_of r = r.r0 ∷ r.r1 ∷ r.r2 ∷ r.r3 ∷ []

-- "Word 0 is the operation; 1 to 3 sources; 4 type; 5 number; 6 device; 7 and 8 low and high; 9 to 12 row A; 13 to 16 row B."
unfoldable pub node_of : List ℤ → Node
node_of w =
    record {
      op = size_at w 0;
      source1 = node (size_at w 1);
      source2 = node (size_at w 2);
      source3 = node (size_at w 3);
      dtype = size_at w 4;
      number = word_at w 5;
      device = size_at w 6;
      low = word_at w 7;
      high = word_at w 8;
      rowa = row_at w 9;
      rowb = row_at w 13;
    }

-- the words of node n of a table, and the node that they are
unfoldable pub words_of : List ℤ → ℕ → List ℤ
words_of t n = take words_per_node (drop (words_per_node * n) t)

unfoldable pub node_at : List ℤ → ℕ → Node
node_at t n = node_of (words_of t n)

-- STACK has as many sources as its number says: "rules 4 and 6 read word 3 only with number 3"
abbrev pub in_number : Node → ℕ → Bool
in_number x k = not (eqb x.op STACK && eqb k 3) || eqb (size_of x.number) 3

-- Source k (1 to 3) is read. Word 3 of a STACK of two is a used word that is no source.
unfoldable pub reads : Node → ℕ → Bool
reads x k = uses x.op k && in_number x k

-- how many nodes a table has
unfoldable pub node_count : List ℤ → ℕ
node_count t = length t / words_per_node

-- "1: length no multiple of 17, or not 1..256 nodes"
unfoldable pub length_right : List ℤ → Bool
length_right t = eqb (length t % words_per_node) 0 && (leb 1 (node_count t) && leb (node_count t) node_limit)

-- "3: unused word not zero". Word 0 is the operation and never unused.
unfoldable pub unused_zero : ℕ → List ℤ → Bool
unused_zero op w = all_below words_per_node (λ (k : ℕ). eqb k 0 || (uses op k || eqb (size_of (word_at w k)) 0))

-- x where node n is a PARAM, else 0; and the sum of f over the PARAMs before node n
abbrev pub if_param : List ℤ → ℕ → ℕ → ℕ
if_param t n x = cond (eqb (node_at t n).op PARAM) x 0

unfoldable pub over_params : List ℤ → (ℕ → ℕ) → ℕ → ℕ
over_params t f zero = 0
over_params t f (suc n) = over_params t f n + if_param t n (f n)

-- the number of PARAMs before node n
abbrev pub params_before : List ℤ → ℕ → ℕ
params_before t n = over_params t (λ (i : ℕ). 1) n
