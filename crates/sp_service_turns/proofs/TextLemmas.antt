-- Texts of lines, one after the other, and what objects tell of themselves over several calls.
use Rattle.std.proofs.Common.{◌≡◌, ◌+◌, List, [], ◌∷◌, ◌++◌, length, take, Option, None, Some, refl, sym, ap, ◌∙◌, subst, append_assoc, append-nil}
use Rattle.std.proofs.Common.{length-append, arith}
use Rattle.std.specs.Io.KnownBytes.{Appends}
use Rattle.std.proofs.KnownBytes.{Appends-nil, Appends-trans}
use Rattle.std.proofs.Math.Seq.{take-append-add, take-length}
use Rattle.std.proofs.lemmas.List.{take-append-le}
use Rattle.std.proofs.lemmas.Grind.{flat_map-append}
use Rattle.sp_lines.specs.Rows.{line_text}
use Rattle.sp_outside.specs.Calls.{Tells}
use Rattle.sp_outside.specs.Streams.{AppendsFront}
use Rattle.sp_recording.specs.RecordingText.{line_words, lines_text}
use Rattle.sp_recording.specs.declared.line.Line.{Line}
use Rattle.sp_service_turns.specs.Done.{Gets}
use Rattle.sp_service_turns.specs.Outside.{Text}
use Rattle.sp_service_turns.specs.Early.{GetsFront}

-- ---- what is told

pub tells_on : {X : Type 0} (a b c : Option (List X)) (xs ys : List X) → Tells a b xs → Tells b c ys → Tells a c (xs ++ ys)
tells_on a b None xs ys p q = tt
tells_on a None (Some z) xs ys p q = absurd q
tells_on None (Some y) (Some z) xs ys p q = absurd p
tells_on (Some x) (Some y) (Some z) xs ys p q = q ∙ ap (λ l. l ++ ys) p ∙ append_assoc x xs ys

pub tells_itself : {X : Type 0} (a : Option (List X)) → Tells a a []
tells_itself None = tt
tells_itself (Some x) = sym (append-nil x)

pub tells_no_more : {X : Type 0} (a b : Option (List X)) → b ≡ a → Tells a b []
tells_no_more {X} a b is = subst (λ (o : Option (List X)). Tells a o []) (sym is) (tells_itself a)

-- ---- texts

pub one_line : (l : Line) → lines_text (l ∷ []) ≡ line_text (line_words l)
unfolding lines_text
one_line l = append-nil (line_text (line_words l))

pub texts_on : (xs ys : List Line) → lines_text (xs ++ ys) ≡ lines_text xs ++ lines_text ys
unfolding lines_text
texts_on xs ys = flat_map-append (λ (line : Line). line_text (line_words line)) xs ys

no_text : lines_text [] ≡ []
unfolding lines_text
no_text = refl

pub gets_on : (a b c : Text) (xs ys : List Line) → Gets a b xs → Gets b c ys → Gets a c (xs ++ ys)
gets_on a b c xs ys p q = subst (Appends a c) (sym (texts_on xs ys)) (Appends-trans a b c (lines_text xs) (lines_text ys) p q)

pub gets_itself : (a : Text) → Gets a a []
gets_itself a = subst (Appends a a) (sym no_text) (Appends-nil a)

pub gets_no_more : (a b : Text) → b ≡ a → Gets a b []
gets_no_more a b is = subst (λ (o : Text). Gets a o []) (sym is) (gets_itself a)

-- ---- beginnings of texts

-- a beginning of what comes later is a beginning of the whole
pub front_on : (a b c : Text) (xs ys : List Line) → Gets a b xs → GetsFront b c ys → GetsFront a c (xs ++ ys)
front_on a b c xs ys p q =
    let s = lines_text xs in
    let t = lines_text ys in
    let all : AppendsFront a c (s ++ t) = record {
      count = length s + q.count;
      within = omega (arith, length-append s t, q.within);
      appended = subst (Appends a c) (sym (take-append-add s t q.count)) (Appends-trans a b c s (take q.count t) p q.appended);
    } in
    subst (AppendsFront a c) (sym (texts_on xs ys)) all

-- and so is a beginning of what comes first
pub front_more : (a b : Text) (xs ys : List Line) → GetsFront a b xs → GetsFront a b (xs ++ ys)
front_more a b xs ys p =
    let s = lines_text xs in
    let t = lines_text ys in
    let all : AppendsFront a b (s ++ t) = record {
      count = p.count;
      within = omega (arith, length-append s t, p.within);
      appended = subst (Appends a b) (sym (take-append-le p.count s t p.within)) p.appended;
    } in
    subst (AppendsFront a b) (sym (texts_on xs ys)) all

pub front_whole : (a b : Text) (xs : List Line) → Gets a b xs → GetsFront a b xs
front_whole a b xs p = record {
  count = length (lines_text xs);
  within = omega arith;
  appended = subst (Appends a b) (sym (take-length (lines_text xs))) p;
}
