-- What holds of a node when its turn comes. s, t and u are its sources' extents, [] where it has none; r is its own.
use Rattle.std.specs.Prelude.{ℕ, ◌+◌, ◌<◌, ◌≤◌, ◌≡◌, true, List, ℤ, length}
use Rattle.laws.specs.Numbering.{count}
use Rattle.plan.specs.declared.Node.{Node}
use Rattle.plan.specs.Operations.{PARAM, is_operation}
use Rattle.plan.specs.Words.{reads}
use Rattle.shapes.specs.Rules.{element_limit, extent, shapes_agree, result_extents}
use Rattle.rules.specs.Rules.{rows_right}
use Rattle.cells.specs.Nodes.{Operands}
use Rattle.views.specs.Numbers.{SmallIn}
use Rattle.evaluation.specs.Standing.{Source, Given, Room}

-- extents from 1 on, at most four, of at most 1048576 elements
pub record Proper (s : List ℕ) : Type 0 where
  pub positive : (k : ℕ) → 0 < extent s k
  pub ranked : length s ≤ 4
  pub few : count s ≤ element_limit

-- what the check has found
pub record Right (x : Node) (s t u r : List ℕ) : Type 0 where
  pub params : ℕ
  pub known : is_operation x.op ≡ true
  pub rows : rows_right x params (length s) ≡ true
  pub shapes : shapes_agree x s t u ≡ true
  pub result : r ≡ result_extents x s t u
  pub first : Proper s
  pub second : Proper t
  pub third : Proper u
  pub whole : Proper r

-- where its sources and its input begin, all before its own place
pub record Ready (x : Node) (s t u r : List ℕ) (pa pb pc from start : ℕ) (given : List ℤ) (known : List ℕ) (vs : List ℤ) (fs : List ℕ) : Type 0 where
  pub right : Right x s t u r
  pub room : Room r start vs fs
  pub small_first : reads x 1 ≡ true → SmallIn vs pa (pa + count s)
  pub small_second : reads x 2 ≡ true → SmallIn vs pb (pb + count t)
  pub first : reads x 1 ≡ true → pa + count s ≤ start
  pub second : reads x 2 ≡ true → pb + count t ≤ start
  pub third : reads x 3 ≡ true → pc + count u ≤ start
  pub values : x.op ≡ PARAM → from + count r ≤ length given
  pub flags : x.op ≡ PARAM → from + count r ≤ length known

-- the buffers hold what it is evaluated from
pub record Reads (x : Node) (s t u r : List ℕ) (pa pb pc from : ℕ) (given : List ℤ) (known : List ℕ) (vs : List ℤ) (fs : List ℕ) (o : Operands) : Type 0 where
  pub first : reads x 1 ≡ true → Source vs fs pa s o.a
  pub second : reads x 2 ≡ true → Source vs fs pb t o.b
  pub third : reads x 3 ≡ true → Source vs fs pc u o.c
  pub input : x.op ≡ PARAM → Given given known from r o.input
