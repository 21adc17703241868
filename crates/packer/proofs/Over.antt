-- A buffer with some bytes over its own: a pen that puts bytes leaves just that.
use Rattle.std.proofs.Common.{◌≡◌, ℕ, ◌+◌, ◌≤◌, List, ◌++◌, length, take, drop, sym, ap, ◌∙◌, ap₂, append_assoc, length-append, arith}
use borrow.Rule.Slice.PartMut.{put_mid}
use Rattle.std.proofs.lemmas.List.{length-take-le, length-drop, take-append-drop, take_at, drop_at, drop-drop}
use Rattle.packer.specs.declared.pen.Pen.{Pen}
use Rattle.packer.specs.Put.{Put, Room}

-- the buffer with some bytes over its own, from a place on
abbrev pub over : ℕ → List ℕ → List ℕ → List ℕ
over place bytes buffer = take place buffer ++ (bytes ++ drop (place + length bytes) buffer)

module _ (a : ℕ) (xs b : List ℕ) (fits : a + length xs ≤ length b) where
  front : length (take a b ++ xs) ≡ a + length xs
  front = simp (length-append, length-take-le a b (omega arith))

  grouped : over a xs b ≡ (take a b ++ xs) ++ drop (a + length xs) b
  grouped = sym (append_assoc (take a b) xs (drop (a + length xs) b))

  pub length_over : length (over a xs b) ≡ length b
  length_over =
      ap length grouped ∙ length-append (take a b ++ xs) (drop (a + length xs) b)
      ∙ ap₂ (λ m n. m + n) front (length-drop (a + length xs) b) ∙ omega arith

  take-over : take (a + length xs) (over a xs b) ≡ take a b ++ xs
  take-over = ap (take (a + length xs)) grouped ∙ take_at (take a b ++ xs) (drop (a + length xs) b) (a + length xs) front

  drop-over : drop (a + length xs) (over a xs b) ≡ drop (a + length xs) b
  drop-over = ap (drop (a + length xs)) grouped ∙ drop_at (take a b ++ xs) (drop (a + length xs) b) (a + length xs) front

-- what a copy into a part of the buffer leaves
pub copied : (a k : ℕ) (before copy bytes : List ℕ) → copy ≡ bytes → k ≡ length bytes → put_mid a k before copy ≡ over a bytes before
copied a k before copy bytes e l = ap₂ (λ u v. take a before ++ (u ++ v)) e (drop-drop k a before ∙ ap (λ n. drop (a + n) before) l)

-- the buffer of a pen has what was put over its own bytes
pub put-over : {xs : List ℕ} {before after : Pen} → Put xs before after → after.buffer.now ≡ over before.at xs before.buffer.now
put-over {xs} {before} {after} p =
    sym (take-append-drop after.at after.buffer.now)
    ∙ ap₂ (λ s t. s ++ t) p.written (p.kept ∙ ap (λ n. drop n before.buffer.now) p.at)
    ∙ append_assoc (take before.at before.buffer.now) xs (drop (before.at + length xs) before.buffer.now)

-- and a pen whose buffer has that, and that stands behind it, put just those bytes
pub over-put : {xs : List ℕ} {before after : Pen} → Room before (length xs) → after.at ≡ before.at + length xs → after.buffer.now ≡ over before.at xs before.buffer.now → after.buffer.ghost_name ≡ before.buffer.ghost_name → Put xs before after
over-put {xs} {before} {after} fits ends wrote same =
    record {
      room = fits;
      at = ends;
      written = ap₂ (λ n s. take n s) ends wrote ∙ take-over before.at xs before.buffer.now fits;
      kept = ap₂ (λ n s. drop n s) ends wrote ∙ drop-over before.at xs before.buffer.now fits ∙ ap (λ n. drop n before.buffer.now) (sym ends);
      long = ap length wrote ∙ length_over before.at xs before.buffer.now fits;
      same = same;
    }

-- the buffer is as long as it was
pub same_length : {xs : List ℕ} {before after : Pen} → Put xs before after → length after.buffer.now ≡ length before.buffer.now
same_length {xs} {before} p = ap length (put-over p) ∙ length_over before.at xs before.buffer.now p.room
