-- Pieces that a writer writes, one after another.
use Prim.Native.Nat.{ℕ, ◌+◌, ◌≤◌}
use mathlib.Core.Path.{◌≡◌, refl, sym, ◌∙◌}
use mathlib.Core.List.{List, ◌++◌, append_assoc}
use borrow.Rule.Slice.PartMut.{put_mid}
use lib.ListN.{length, take, drop}
use lib.Seq.{sets}
use Rattle.std.proofs.lemmas.List.Edits.{sets-eq, paste_all}
use Rattle.std.proofs.lemmas.Slice.{put_mid-paste}
use Rattle.laws.specs.Pieces.{Writes}
use Rattle.laws.proofs.Pieces as piece
use Rattle.laws.proofs.Pieces.{same_room}
use Rattle.listing.specs.declared.Writer.{Writer}
use Rattle.listing.specs.Writing.{Puts}

-- a word in the place of as many bytes
pub word_put : (l word part : List ℕ) (at k : ℕ) → k ≡ length word → part ≡ word → at + length word ≤ length l → put_mid at k l part ≡ sets l at word
word_put l word part at k e q h =
    put_mid-paste at k l part word (length word) q (sym e) refl ∙ paste_all l at word (length word) refl ∙ sym (append_assoc (take at l) word (drop (at + length word) l)) ∙ sym (sets-eq word l at h)

-- what was written, in the same text
pub puts : {ws : List ℕ} {m : ℕ} {before after : Writer} → Writes ws m before.text.now before.at after.text.now after.at → after.text.ghost_name ≡ before.text.ghost_name → Puts ws m before after
puts w e = record { writes = w; same_text = e; same_room = same_room w }

-- a piece after a piece, and a larger bound
pub then : {xs ys : List ℕ} {m n : ℕ} {before mid after : Writer} → Puts xs m before mid → Puts ys n mid after → Puts (xs ++ ys) (m + n) before after
then v w = puts (piece.then v.writes w.writes) (w.same_text ∙ v.same_text)

pub within : {ws : List ℕ} {m : ℕ} (n : ℕ) {before after : Writer} → Puts ws m before after → m ≤ n → Puts ws n before after
within n w h = puts (piece.within n w.writes h) w.same_text

-- the same bytes, said otherwise
pub said : {vs ws : List ℕ} {m : ℕ} {before after : Writer} → vs ≡ ws → Puts vs m before after → Puts ws m before after
said e w = puts (piece.said e w.writes) w.same_text
