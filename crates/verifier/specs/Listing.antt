-- The listing's text, as bytes.
use Rattle.std.specs.Prelude.{ℕ, zero, suc, ◌+◌, ◌/◌, ◌%◌, cond, List, [], ◌∷◌, ◌++◌, ℤ, pos, negsuc, ltb, length, get_or, take}
use Rattle.laws.specs.Lists.{tab, concat}
use Rattle.plan.specs.Words.{node_at}
use Rattle.plan.specs.Answers.{Outcome, accepted, refused}
use Rattle.rules.specs.Rules.{Derived, no_source}
use Rattle.verifier.specs.Check.{Checked, unpack_check}

-- bytes of the text
abbrev pub line_feed : ℕ
line_feed = 10

abbrev pub space : ℕ
space = 32

abbrev pub minus : ℕ
minus = 45

-- decimal digits, at most k of them. A number that is printed is below 10^20: node and refusal numbers, places, extents and bounds all
-- are, so 20 digits always serve and the first case is not reached.
unfoldable pub digits : ℕ → ℕ → List ℕ
digits zero n = []
digits (suc k) n = cond (ltb n 10) [] (digits k (n / 10)) ++ (48 + n % 10) ∷ []

unfoldable pub decimal : ℕ → List ℕ
decimal n = digits 20 n

unfoldable pub signed : ℤ → List ℕ
signed (pos n) = decimal n
signed (negsuc n) = minus ∷ decimal (suc n)

-- "Extents are joined by x"; a shape of rank 0 is -
unfoldable pub joined : List ℕ → List ℕ
joined [] = []
joined (n ∷ ns) = 120 ∷ decimal n ++ joined ns

unfoldable pub shape_text : List ℕ → List ℕ
shape_text [] = minus ∷ []
shape_text (n ∷ ns) = decimal n ++ joined ns

-- "node op dtype device low high shape"
abbrev pub header : List ℕ
header =
    110 ∷ 111 ∷ 100 ∷ 101 ∷ 32 ∷ 111 ∷ 112 ∷ 32 ∷ 100 ∷ 116 ∷ 121 ∷ 112 ∷ 101 ∷ 32 ∷ 100 ∷ 101 ∷ 118 ∷ 105 ∷ 99 ∷ 101 ∷ 32 ∷ 108 ∷ 111 ∷ 119 ∷ 32 ∷ 104 ∷ 105 ∷ 103 ∷ 104 ∷ 32 ∷ 115 ∷ 104 ∷ 97 ∷ 112 ∷ 101 ∷ 10 ∷ []

-- node n, its operation and its record; "each line ends in a line feed"
unfoldable pub node_line : ℕ → ℕ → Derived → List ℕ
node_line n op d =
    decimal n ++ space ∷ decimal op ++ space ∷ decimal d.dtype ++ space ∷ decimal d.device
    ++ space ∷ signed d.bounds.low ++ space ∷ signed d.bounds.high ++ space ∷ shape_text d.extents ++ line_feed ∷ []

-- "accepted "
abbrev pub accepted_word : List ℕ
accepted_word = 97 ∷ 99 ∷ 99 ∷ 101 ∷ 112 ∷ 116 ∷ 101 ∷ 100 ∷ 32 ∷ []

-- "refused "
abbrev pub refused_word : List ℕ
refused_word = 114 ∷ 101 ∷ 102 ∷ 117 ∷ 115 ∷ 101 ∷ 100 ∷ 32 ∷ []

-- " at "
abbrev pub at_word : List ℕ
at_word = 32 ∷ 97 ∷ 116 ∷ 32 ∷ []

-- the lines of an accepted plan, the last of which "has the node count"; "A refusal writes only `refused N at P`."
abbrev pub text_of : Outcome Checked → List ℕ
text_of (accepted p) =
    header
    ++ concat (tab (length p.records) (λ (n : ℕ). node_line n (node_at p.table n).op (get_or p.records n no_source)))
    ++ accepted_word ++ decimal (length p.records) ++ line_feed ∷ []
text_of (refused r) = refused_word ++ decimal r.number ++ at_word ++ decimal r.place ++ line_feed ∷ []

-- "A small program reads up to 12288 bytes on standard input and lists"
abbrev pub read_limit : ℕ
read_limit = 12288

unfoldable pub listing : List ℕ → List ℕ
listing s = text_of (unpack_check (take read_limit s))
