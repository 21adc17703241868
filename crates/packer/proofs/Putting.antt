-- Parts that a pen puts one after another.
use Rattle.std.proofs.Common.{◌≡◌, ℕ, ◌+◌, ◌<◌, ◌≤◌, List, [], ◌∷◌, ◌++◌, length, get_or, take, drop, sym, refl, ap, ◌∙◌, subst, add-zero, append_assoc, length-append, arith}
use Rattle.std.proofs.lemmas.List.{append-nil, drop-drop, take_all, take_more}
use Rattle.packed_layout.specs.Codec.{Codec, write_all}
use Rattle.packer.specs.declared.pen.Pen.{Pen}
use Rattle.packer.specs.Put.{Put}

-- no bytes
pub put-nothing : (pen : Pen) → pen.at ≤ length pen.buffer.now → Put [] pen pen
put-nothing pen h = record { room = omega arith; at = sym (add-zero pen.at); written = sym (append-nil (take pen.at pen.buffer.now)); kept = refl; long = refl; same = refl }

-- the same bytes in other words
pub put-alike : {xs ys : List ℕ} {before after : Pen} → xs ≡ ys → Put xs before after → Put ys before after
put-alike {before = before} {after = after} same p = subst (λ (s : List ℕ). Put s before after) same p

-- two parts, the second behind the first
pub put_both : {xs ys : List ℕ} {before middle after : Pen} → Put xs before middle → Put ys middle after → Put (xs ++ ys) before after
put_both {xs} {ys} {before} {middle} {after} p q =
    record {
      room = simp length-append (omega arith);
      at = simp length-append (omega arith);
      written = q.written ∙ ap (λ s. s ++ ys) p.written ∙ append_assoc (take before.at before.buffer.now) xs ys;
      kept =
          let late = λ (s : List ℕ). drop-drop (length ys) middle.at s ∙ ap (λ n. drop n s) (sym q.at) in
          q.kept ∙ sym (late middle.buffer.now) ∙ ap (drop (length ys)) p.kept ∙ late before.buffer.now;
      long = q.long ∙ p.long;
      same = q.same ∙ p.same;
    }

-- a list's values one after another: one more, and all of them

write-push : {A : Type 0} (c : Codec A) (xs : List A) (x : A) → write_all c xs ++ c.write x ≡ write_all c (xs ++ x ∷ [])
write-push c [] x = sym (append-nil (c.write x))
write-push c (y ∷ ys) x = append_assoc (c.write y) (write_all c ys) (c.write x) ∙ ap (λ s. c.write y ++ s) (write-push c ys x)

pub put_more : {A : Type 0} (c : Codec A) (xs : List A) (i : ℕ) (d : A) → i < length xs → {before middle after : Pen} → Put (write_all c (take i xs)) before middle → Put (c.write (get_or xs i d)) middle after → Put (write_all c (take (i + 1) xs)) before after
put_more c xs i d h {before = before} {after = after} p q =
    let all = write-push c (take i xs) (get_or xs i d) ∙ ap (write_all c) (sym (take_more xs i d h)) in
    subst (λ (s : List ℕ). Put s before after) all (put_both p q)

pub put-all : {A : Type 0} (c : Codec A) (xs : List A) (i : ℕ) → length xs ≤ i → {before after : Pen} → Put (write_all c (take i xs)) before after → Put (write_all c xs) before after
put-all c xs i h p = put-alike (ap (write_all c) (take_all i xs h)) p
