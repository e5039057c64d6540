-- What a turn of `read_full` reads stands in the buffer after what was read before it.
use Rattle.std.proofs.Common.{rules, ◌≡◌, ◌+◌, ◌≤◌, ℕ, List, ◌++◌, length, take, sym, ap, ◌∙◌, subst, length-take-le}
use Rattle.std.proofs.Math.Seq.{take-append-add}
use Rattle.std.proofs.lemmas.List.{take-append-le}
use Rattle.std.proofs.KnownBytes.{Consumes-trans}
use Rattle.std.specs.Io.KnownBytes.{Consumes}
use borrow.Rule.Slice.PartMut.{put_mid, post_of}
use Rattle.streams.proofs.read_full.Goals as goal

front : (a k n : ℕ) (xs ys : List ℕ) → a ≤ length xs → n ≤ length ys → take (a + n) (put_mid a k xs ys) ≡ take a xs ++ take n ys
front a k n xs ys within fits =
    let after = post_of a k xs in
    let before = take a xs in
    let long : length before ≡ a = length-take-le a xs within in
    ap (λ m. take (m + n) (before ++ (ys ++ after))) (sym long)
    ∙ take-append-add before (ys ++ after) n
    ∙ ap (λ l. before ++ l) (take-append-le n ys after fits)

pub loop-done-preserved : goal.loop-done-preserved
loop-done-preserved g c =
    let within = c.loop-done.invariant.0 in
    let read = c.read_some-n.ensures in
    let joined = front c.loop-done.done _ c.read_some-n.result c.loop-done.buffer c.read_some-n.new.buffer within read.within in
    (search rules, search rules, subst (Consumes _ _) (sym joined) (Consumes-trans _ _ _ _ _ c.loop-done.invariant.2 read.bytes))
