use Rattle.std.proofs.Common.{length, take, ◌≡◌, ◌≤◌, ◌+◌, ℕ, List, ◌++◌, arith, ap, ◌∙◌, sym, subst}
use Rattle.std.proofs.Math.Seq.{take-append-add}
use Rattle.std.proofs.lemmas.List.{take-append-le}
use lib.Seq.{length-take-le}
use borrow.Rule.Slice.PartMut.{put_mid, post_of, mid_len, same_len_mid}
use Rattle.std.specs.Io.KnownBytes.{Consumes}
use Rattle.std.proofs.KnownBytes.{Consumes-trans}
use Rattle.reading.proofs.read_full.Goals as goal

-- the bytes that a read put behind the first d
one_more : (d k n : ℕ) (xs ys : List ℕ) → d ≤ length xs → n ≤ length ys → take (d + n) (put_mid d k xs ys) ≡ take d xs ++ take n ys
one_more d k n xs ys h l =
    ap (λ (i : ℕ). take (i + n) (put_mid d k xs ys)) (sym (length-take-le d xs h)) ∙ take-append-add (take d xs) (ys ++ post_of d k xs) n ∙ ap (λ (zs : List ℕ). take d xs ++ zs) (take-append-le n ys (post_of d k xs) l)

pub loop-done-preserved : goal.loop-done-preserved
loop-done-preserved g c =
    let l = c.loop-done in
    let same = c.read.auto.buf in
    let room = same ∙ mid_len l.done (length l.buffer) l.buffer (omega arith) in
    let given = c.in_ok-n.ensures.bound.0 in (
      omega (arith, room, given),
      same_len_mid _ _ _ _ same ∙ l.invariant.1,
      subst (Consumes (g.R.Read.remaining c.args.input.now) (g.R.Read.remaining c.read.new.self)) (sym (one_more l.done _ c.in_ok-n.n l.buffer c.read.new.buf (omega arith) given))
          (Consumes-trans _ _ _ _ _ l.invariant.2 c.in_ok-n.ensures.bytes.0),
    )
