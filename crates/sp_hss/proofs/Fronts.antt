-- A front that is valid decides nothing but the lower tree's signature, and a valid signature has a valid front.
use Rattle.std.proofs.Common.{◌≡◌, ℕ, ◌+◌, ◌-◌, ◌≤◌, List, ◌++◌, length, take, drop, subst₂, sym, ◌∙◌, ap, inl, inr, arith}
use Rattle.std.proofs.lemmas.List.{length-drop, length-take-le, take-append-drop, take-append-le, drop-append-le, drop-drop, drop-take, take-take}
use Rattle.sp_lms.specs.Numbers.{str_to_u32}
use Rattle.sp_lms.specs.Parameters.{signature_len}
use Rattle.sp_lms.specs.Validity as tree
use Rattle.sp_hss.specs.Validity.{number_of, IsValid}
use Rattle.sp_hss.specs.Front.{lower_key_of, upper_of, IsFrontUnder, IsFrontLen}
use Rattle.sp_hss.proofs.Cuts.{IsCutAt, cut_at, parts_stand, signed_at}

-- the two parts of a front after its number
front_cut : (front : List ℕ) → 60 ≤ length front → drop 4 front ≡ upper_of front ++ lower_key_of front
front_cut front long =
    let n = length front - 60 in
    let place : 4 + n ≡ length front - 56 = omega arith in
    sym (take-append-drop n (drop 4 front)) ∙ ap (λ (xs : List ℕ). upper_of front ++ xs) (drop-drop n 4 front ∙ ap (λ (k : ℕ). drop k front) place)

-- what begins with a front has its number, and its parts after that
after_front : (front rest : List ℕ) → 60 ≤ length front
    → (number_of (front ++ rest) ≡ number_of front) × (drop 4 (front ++ rest) ≡ upper_of front ++ lower_key_of front ++ rest)
after_front front rest long =
    let four : 4 ≤ length front = omega arith in (
      ap str_to_u32 (take-append-le 4 front rest four),
      drop-append-le 4 front rest four ∙ ap (λ (xs : List ℕ). xs ++ rest) (front_cut front long),
    )

long_key : (front : List ℕ) → 60 ≤ length front → length (lower_key_of front) ≡ 56
long_key front long = omega (arith, length-drop (length front - 56) front)

-- under a valid front a signature is valid exactly where that of the lower tree is
pub valid_after_front : (public front rest message : List ℕ) → IsFrontUnder public front
    → tree.IsValid (lower_key_of front) message rest → IsValid public message (front ++ rest)
valid_after_front public front rest message known valid =
    let after = after_front front rest known.long in
    inr record {
      levels = known.levels;
      levels_below = after.0 ∙ known.levels_below;
      signed = (
        upper_of front,
        lower_key_of front,
        rest,
        record { parts = after.1; upper_valid = known.upper_valid; lower_valid = valid },
      );
    }

pub lower_valid : (public front rest message : List ℕ) → IsFrontUnder public front
    → IsValid public message (front ++ rest) → tree.IsValid (lower_key_of front) message rest
lower_valid public front rest message known valid = elim valid [
  | inl one ↦ absurd (omega (arith, one.levels, known.levels))
  | inr two ↦
      let after = after_front front rest known.long in
      let s = drop 4 (front ++ rest) in
      let own = known.upper_valid in
      let place = signature_len own.0 own.1 in
      let signed = two.signed in
      let at = signed_at own.0 own.1 signed.0 signed.1 signed.2 (drop 4 public) message s own.2 signed.3 in
      let cut : IsCutAt place (upper_of front) (lower_key_of front) rest s =
      rw after.1 (cut_at (upper_of front) (lower_key_of front) rest place own.3.length_is (long_key front known.long)) in
      let P : List ℕ → List ℕ → Type 0 = λ key lower. tree.IsValid key message lower in
      subst₂ P (sym cut.lower_key_is) (sym cut.lower_is) at.lower_valid
]

-- the front of a valid signature is valid
pub front_of_valid : (public message signature : List ℕ) (len : ℕ) → IsFrontLen public len → IsValid public message signature
    → (len ≤ length signature) × IsFrontUnder public (take len signature)
front_of_valid public message signature len room valid = elim valid [
  | inl one ↦ absurd (omega (arith, one.levels, room.levels))
  | inr two ↦
      let place = signature_len room.upper room.one_time in
      let s = drop 4 signature in
      let signed = two.signed in
      let cut = parts_stand room.upper room.one_time signed.0 signed.1 signed.2 (drop 4 public) message s room.types signed.3 in
      let at = signed_at room.upper room.one_time signed.0 signed.1 signed.2 (drop 4 public) message s room.types signed.3 in
      let enough : len ≤ length signature = omega (arith, cut.long, room.len_is, length-drop 4 signature) in
      let long : length (take len signature) ≡ len = length-take-le len signature enough in
      let before_key : length (take len signature) - 56 ≡ 4 + place = omega (arith, long, room.len_is) in
      let whole : len ≡ 4 + place + 56 = room.len_is in
      let rest_is : len ≡ 4 + (place + 56) = omega (arith, whole) in
      let key : lower_key_of (take len signature) ≡ take 56 (drop place s) =
      ap (λ (k : ℕ). drop k (take len signature)) before_key ∙ ap (λ (k : ℕ). drop (4 + place) (take k signature)) whole
      ∙ drop-take (4 + place) 56 signature ∙ ap (take 56) (sym (drop-drop place 4 signature)) in
      let before_place : length (take len signature) - 60 ≡ place = omega (arith, long, room.len_is) in
      let upper : upper_of (take len signature) ≡ take place s =
      ap (λ (k : ℕ). take k (drop 4 (take len signature))) before_place ∙ ap (λ (k : ℕ). take place (drop 4 (take k signature))) rest_is
      ∙ ap (take place) (drop-take 4 (place + 56) signature) ∙ take-take place (place + 56) s (omega arith) in
      let number : number_of (take len signature) ≡ number_of signature = ap str_to_u32 (take-take 4 len signature (omega (arith, whole))) in (
        enough,
        record {
          levels = room.levels;
          levels_below = number ∙ two.levels_below;
          long = omega (arith, long, room.len_is);
          upper_valid = rw (key, upper) at.upper_valid;
        },
      )
]
