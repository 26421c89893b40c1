-- A head is read back, and a frame is its head, its sections and its tag.
use Rattle.std.proofs.Common.{◌≡◌, ℕ, zero, suc, ◌+◌, ◌-◌, ◌<◌, ◌≤◌, List, [], ◌∷◌, ◌++◌, length, take, drop, slice_index}
use Rattle.std.proofs.Common.{append_assoc, length-take, take-append-drop, refl, sym, ap, ◌∙◌, arith}
use Rattle.std.proofs.lemmas.List.{drop-append-le, length-drop}
use Rattle.std.proofs.lemmas.List.Elements.{All-drop}
use Rattle.byteorder.specs.Endian.{big_bytes, big_number}
use Rattle.byteorder.specs.Numbers.{big_number-reads_back}
use Rattle.sp_base.specs.Spelling.{AreBytes}
use Rattle.sp_base.proofs.NumberLemmas.{bytes_back}
use Rattle.sp_frame.specs.Frames.{IsFrame, ends_bytes, head_bytes, head_of, numbers_bytes, sections_part, tag_part}
use Rattle.sp_frame.specs.Laws.{FrameIsItsParts, HeadIsRead}
use Rattle.sp_frame.specs.declared.frame.TheConstants.{NAME}
use Rattle.sp_frame.specs.declared.head.Head.{Head}
use Rattle.sp_frame.proofs.ObjectLemmas.{in_pieces}

-- ---- a head is read back
abbrev head_from : ℕ → ℕ → ℕ → ℕ → ℕ → ℕ → ℕ → Head
head_from a b c d e f g = record { format = g; from = record { 0 = a }; to = record { 0 = b }; boot = c; echo = d; counter = e; topology = f }

same_head : (a b c d e f g : ℕ) (h : Head) → a ≡ h.from.0 → b ≡ h.to.0 → c ≡ h.boot → d ≡ h.echo → e ≡ h.counter → f ≡ h.topology → g ≡ h.format
    → head_from a b c d e f g ≡ h
same_head a b c d e f g h p q r s t u v =
    ap (λ x. head_from x b c d e f g) p
    ∙ ap (λ x. head_from h.from.0 x c d e f g) q
    ∙ ap (λ x. head_from h.from.0 h.to.0 x d e f g) r
    ∙ ap (λ x. head_from h.from.0 h.to.0 h.boot x e f g) s
    ∙ ap (λ x. head_from h.from.0 h.to.0 h.boot h.echo x f g) t
    ∙ ap (λ x. head_from h.from.0 h.to.0 h.boot h.echo h.counter x g) u
    ∙ ap (λ x. head_from h.from.0 h.to.0 h.boot h.echo h.counter h.topology x) v

pub head_is_read : HeadIsRead
unfolding head_of head_bytes ends_bytes numbers_bytes
head_is_read h rest good =
    same_head _ _ _ _ _ _ _ h
    (let small : h.from.0 < 256 = good.from in omega (arith, small))
    (let small : h.to.0 < 256 = good.to in omega (arith, small))
    (big_number-reads_back 8 h.boot (big_bytes 8 h.echo ++ big_bytes 8 h.counter ++ big_bytes 4 h.topology ++ rest) good.boot)
    (big_number-reads_back 8 h.echo (big_bytes 8 h.counter ++ big_bytes 4 h.topology ++ rest) good.echo)
    (big_number-reads_back 8 h.counter (big_bytes 4 h.topology ++ rest) good.counter)
    (big_number-reads_back 4 h.topology rest good.topology)
    (let small : h.format < 256 = good.format in omega (arith, small))

-- ---- a frame is its parts
drop_none : (n : ℕ) → drop {A = ℕ} n [] ≡ []
drop_none zero = refl
drop_none (suc n) = refl

drop_more : (k n : ℕ) (xs : List ℕ) → drop n (drop k xs) ≡ drop (k + n) xs
drop_more zero n xs = ap (λ m. drop m xs) (let same : n ≡ 0 + n = omega arith in same)
drop_more (suc k) n [] = drop_none n ∙ sym (drop_none (suc k + n))
drop_more (suc k) n (x ∷ xs) = drop_more k n xs ∙ ap (λ m. drop m (x ∷ xs)) (let same : suc (k + n) ≡ suc k + n = omega arith in same)

-- the number at a place, and the bytes after it
cut : (n k : ℕ) (bytes : List ℕ) → AreBytes bytes → k + n ≤ length bytes → big_bytes n (big_number n (drop k bytes)) ++ drop (k + n) bytes ≡ drop k bytes
cut n k bytes are long =
    let enough : n ≤ length (drop k bytes) = omega (arith, length-drop k bytes, long) in
    ap (λ bs. bs ++ drop (k + n) bytes) (bytes_back n (drop k bytes) enough (All-drop (λ b. b < 256) k bytes are))
    ∙ ap (λ bs. take n (drop k bytes) ++ bs) (sym (drop_more k n bytes))
    ∙ take-append-drop n (drop k bytes)

byte_at_front : (xs : List ℕ) → big_number 1 xs ≡ slice_index xs 0
byte_at_front xs = omega arith

byte_there : (k : ℕ) (bytes : List ℕ) → big_number 1 (drop k bytes) ≡ slice_index bytes k
byte_there zero bytes = byte_at_front bytes
byte_there (suc k) [] = byte_at_front []
byte_there (suc k) (b ∷ bytes) = byte_there k bytes

cut_byte : (k : ℕ) (bytes : List ℕ) → AreBytes bytes → k + 1 ≤ length bytes → big_bytes 1 (slice_index bytes k) ++ drop (k + 1) bytes ≡ drop k bytes
cut_byte k bytes are long = ap (λ n. big_bytes 1 n ++ drop (k + 1) bytes) (sym (byte_there k bytes)) ∙ cut 1 k bytes are long

ends_are : (bytes : List ℕ) → AreBytes bytes → 65 ≤ length bytes → big_number 2 bytes ≡ NAME
    → ends_bytes (head_of bytes) ++ drop 5 bytes ≡ bytes
unfolding ends_bytes head_of
ends_are bytes are long name =
    let a = big_bytes 2 NAME in
    let b = big_bytes 1 (slice_index bytes 2) in
    let c = big_bytes 1 (slice_index bytes 3) in
    let d = big_bytes 1 (slice_index bytes 4) in
    let fifth : d ++ drop 5 bytes ≡ drop 4 bytes = cut_byte 4 bytes are (omega (arith, long)) in
    let fourth : c ++ drop 4 bytes ≡ drop 3 bytes = cut_byte 3 bytes are (omega (arith, long)) in
    let third : big_bytes 1 (slice_index bytes 2) ++ drop 3 bytes ≡ drop 2 bytes = cut_byte 2 bytes are (omega (arith, long)) in
    let first : big_bytes 2 (big_number 2 bytes) ++ drop 2 bytes ≡ bytes = cut 2 0 bytes are (omega (arith, long)) in
    in_pieces a b c d (drop 5 bytes)
    ∙ ap (λ x. a ++ (b ++ (c ++ x))) fifth
    ∙ ap (λ x. a ++ (b ++ x)) fourth
    ∙ ap (λ x. a ++ x) third
    ∙ ap (λ n. big_bytes 2 n ++ drop 2 bytes) (sym name)
    ∙ first

numbers_are : (bytes : List ℕ) → AreBytes bytes → 65 ≤ length bytes → numbers_bytes (head_of bytes) ++ drop 33 bytes ≡ drop 5 bytes
unfolding numbers_bytes head_of
numbers_are bytes are long =
    let a = big_bytes 8 (big_number 8 (drop 5 bytes)) in
    let b = big_bytes 8 (big_number 8 (drop 13 bytes)) in
    let c = big_bytes 8 (big_number 8 (drop 21 bytes)) in
    let d = big_bytes 4 (big_number 4 (drop 29 bytes)) in
    let fourth : d ++ drop 33 bytes ≡ drop 29 bytes = cut 4 29 bytes are (omega (arith, long)) in
    let third : c ++ drop 29 bytes ≡ drop 21 bytes = cut 8 21 bytes are (omega (arith, long)) in
    let second : b ++ drop 21 bytes ≡ drop 13 bytes = cut 8 13 bytes are (omega (arith, long)) in
    let first : a ++ drop 13 bytes ≡ drop 5 bytes = cut 8 5 bytes are (omega (arith, long)) in
    in_pieces a b c d (drop 33 bytes)
    ∙ ap (λ x. a ++ (b ++ (c ++ x))) fourth
    ∙ ap (λ x. a ++ (b ++ x)) third
    ∙ ap (λ x. a ++ x) second
    ∙ first

head_is : (bytes : List ℕ) → AreBytes bytes → IsFrame bytes → head_bytes (head_of bytes) ++ drop 33 bytes ≡ bytes
unfolding head_bytes
head_is bytes are frame =
    append_assoc (ends_bytes (head_of bytes)) (numbers_bytes (head_of bytes)) (drop 33 bytes)
    ∙ ap (λ x. ends_bytes (head_of bytes) ++ x) (numbers_are bytes are frame.least)
    ∙ ends_are bytes are frame.least frame.name

-- the bytes after the head are the sections and the tag
split : (k : ℕ) (bytes : List ℕ) → 33 ≤ k → k ≤ length bytes → drop 33 (take k bytes) ++ drop k bytes ≡ drop 33 bytes
split k bytes head within =
    sym (drop-append-le 33 (take k bytes) (drop k bytes) (omega (arith, length-take k bytes, head, within)))
    ∙ ap (λ x. drop 33 x) (take-append-drop k bytes)

pub frame_is_its_parts : FrameIsItsParts
frame_is_its_parts bytes are frame =
    let k = length bytes - 32 in
    let least : 65 ≤ length bytes = frame.least in
    sym (head_is bytes are frame)
    ∙ ap (λ x. head_bytes (head_of bytes) ++ x) (sym (split k bytes (omega (arith, least)) (omega arith)))
    ∙ sym (append_assoc (head_bytes (head_of bytes)) (sections_part bytes) (tag_part bytes))
