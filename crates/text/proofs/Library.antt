-- What the library takes for UTF-8 is UTF-8 as document 01 has it: both are the encodings of scalar values.
use Rattle.std.proofs.Common.{◌≡◌, ℕ, Bool, true, ◌&&◌, List, [], ◌∷◌, ◌++◌, refl, sym, ap₂, ◌∙◌, arith, IsUtf8}
use Rattle.std.proofs.Math.Utf8 as library
use Rattle.std.proofs.lemmas.Bool.Decides.{nat_tests}
use Rattle.meaning.specs.Utf8.{scalar, encoded, utf8}
use Rattle.meaning.specs.Demand.{encodings, scalars}
use Rattle.utf8_laws.specs.Exactly.{utf8_exactly}

one_scalar : (n : ℕ) → library.scalar n ≡ scalar n
unfolding scalar
one_scalar n = grind (arith, nat_tests)

one_encoding : (n : ℕ) → library.encode n ≡ encoded n
unfolding encoded library.encode
one_encoding n = refl

same_scalars : (ns : List ℕ) → library.scalars ns ≡ scalars ns
unfolding scalars
same_scalars [] = refl
same_scalars (n ∷ ns) = ap₂ (λ (a b : Bool). a && b) (one_scalar n) (same_scalars ns)

same_encodings : (ns : List ℕ) → library.encodes ns ≡ encodings ns
unfolding encodings
same_encodings [] = refl
same_encodings (n ∷ ns) = ap₂ (λ (a b : List ℕ). a ++ b) (one_encoding n) (same_encodings ns)

pub library_is_utf8 : (s : List ℕ) → IsUtf8 s → utf8 s ≡ true
library_is_utf8 s (ns, (good, e)) = (utf8_exactly s).1 (ns, sym (same_scalars ns) ∙ good, sym (same_encodings ns) ∙ e)

pub utf8_is_library : (s : List ℕ) → utf8 s ≡ true → IsUtf8 s
utf8_is_library s h =
    let p = (utf8_exactly s).0 h in
    (p.0, (same_scalars p.0 ∙ p.1, same_encodings p.0 ∙ p.2))
