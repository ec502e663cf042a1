-- Pieces of the output, one behind the other.
use Rattle.std.proofs.Common.{◌≡◌, ℕ, ◌+◌, ◌/◌, ◌%◌, List, [], ◌∷◌, ◌++◌, length, take, drop, sym, refl, ap, ◌∙◌, ap₂, append_assoc, append-nil, add-zero, arith, length-append, take-append-drop, drop-drop}
use Rattle.rules.specs.Image.{two, quarters}
use Rattle.image.specs.declared.Output.{Output}
use Rattle.image.specs.Output.{overlay, Puts, Written}

pub puts_nothing : (a : Output) → Puts [] a a
puts_nothing a =
    record { same_output = refl; same_length = refl; behind = sym (add-zero a.at); front = sym (append-nil (take a.at a.bytes.now)); rest = refl }

-- two pieces, one behind the other, are one piece
pub puts_append : {xs ys : List ℕ} {a b c : Output} → Puts xs a b → Puts ys b c → Puts (xs ++ ys) a c
puts_append {xs} {ys} {a} {b} {c} p q =
    record {
      same_output = q.same_output ∙ p.same_output;
      same_length = q.same_length ∙ p.same_length;
      behind = omega (arith, p.behind, q.behind, length-append xs ys);
      front = q.front ∙ ap (λ l. l ++ ys) p.front ∙ append_assoc (take a.at a.bytes.now) xs ys;
      rest = q.rest ∙ past b.bytes.now ∙ ap (drop (length ys)) p.rest ∙ sym (past a.bytes.now);
    }
  where
    past : (out : List ℕ) → drop c.at out ≡ drop (length ys) (drop b.at out)
    past out = ap (λ n. drop n out) q.behind ∙ sym (drop-drop (length ys) b.at out)

-- pieces from the front on
pub puts_written : {piece : List ℕ} {a b : Output} → a.at ≡ 0 → Puts piece a b → Written 0 piece a.bytes.now b.bytes.now b.at
unfolding overlay
puts_written {piece} {a} {b} e p =
    let at : b.at ≡ 0 + length piece = p.behind ∙ ap (λ n. n + length piece) e in
    record {
      out =
          sym (take-append-drop b.at b.bytes.now)
          ∙ ap₂ {A = List ℕ} {B = List ℕ} (λ l m. l ++ m) (p.front ∙ ap (λ n. take n a.bytes.now ++ piece) e) p.rest
          ∙ ap (λ n. piece ++ drop n a.bytes.now) at;
      behind = at;
    }

-- eight bytes of a word are its quarters
pub quarter_bytes : (w : ℕ)
    → w / 72057594037927936 % 256
    ∷ w / 281474976710656 % 256
    ∷ w / 1099511627776 % 256
    ∷ w / 4294967296 % 256
    ∷ w / 16777216 % 256
    ∷ w / 65536 % 256
    ∷ w / 256 % 256
    ∷ w % 256
    ∷ []
    ≡ quarters w
unfolding quarters two
quarter_bytes w =
    let a₁ : w / 72057594037927936 % 256 ≡ w / 281474976710656 / 256 % 256 = omega arith in
    let a₂ : w / 1099511627776 % 256 ≡ w / 4294967296 / 256 % 256 = omega arith in
    let a₃ : w / 16777216 % 256 ≡ w / 65536 / 256 % 256 = omega arith in
    rw (a₁, a₂, a₃)
