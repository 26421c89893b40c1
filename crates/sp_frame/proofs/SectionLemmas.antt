-- Sections are read back, and their bytes are those that were read.
use Rattle.std.proofs.Common.{◌≡◌, ℕ, ◌<◌, ◌≤◌, ◌^◌, ◌==◌, ◌%◌, ◌&&◌, not, Bool, true, false, inl, inr, List, [], ◌∷◌, ◌++◌, length, drop, slice_index}
use Rattle.std.proofs.Common.{append_assoc, append-nil, Option, None, Some, Ok, Err, Result, if◌then◌else◌, refl, sym, ap, ◌∙◌, subst, arith, lit<}
use Rattle.std.specs.Prelude.{All, IfSome}
use Rattle.std.proofs.lemmas.List.Elements.{All-drop, All-nil}
use Rattle.std.proofs.lemmas.Bool.{and_parts, cases_Bool, eqb-true, ne_eqb}
use Rattle.byteorder.specs.Endian.{big_bytes}
use Rattle.sp_base.specs.Refusals.{◌>>=◌}
use Rattle.sp_base.specs.Spelling.{AreBytes}
use Rattle.sp_base.specs.declared.format.TheConstants.{FORMAT_1}
use Rattle.sp_base.specs.declared.limits.TheConstants.{MAX_MESSAGES}
use Rattle.sp_base.proofs.RefusalLemmas.{then_ok}
use Rattle.sp_msg.specs.declared.kept.Kept.{Kept}
use Rattle.sp_frame.specs.Grammar.{number, piece}
use Rattle.sp_frame.specs.Laws.{ReadIsSpelled, SpelledIsRead, TailIsRefused}
use Rattle.sp_frame.specs.Objects.{IsObject, most}
use Rattle.sp_frame.specs.Prioritized.{numbered, numbered_bytes, prios, prios_bytes}
use Rattle.sp_frame.specs.Probes.{epoch, epoch_bytes, probe_at, probe_bytes, probe_from, probes, probes_bytes}
use Rattle.sp_frame.specs.Ranges.{IsContentsIn, IsDocument, IsNumbered, IsProbe, IsReport, Later}
use Rattle.sp_frame.specs.Reliable.{Report, ack, ack_bytes, boot_bytes, paths, paths_bytes, place_bytes, rels, rels_bytes, report, report_bytes, report_from}
use Rattle.sp_frame.specs.Reliable.{slot, slot_bytes}
use Rattle.sp_frame.specs.Sections.{Contents, contents_from, control_bytes, document_at, document_bytes, document_from, has_document, plain_at, plain_bytes}
use Rattle.sp_frame.specs.Sections.{sections_at_in, sections_bytes_in, sections_of_in, sized, sized_bytes, with_document, zeros, zeros_bytes, zeros_from}
use Rattle.sp_frame.specs.Weights.{weights, weights_bytes}
use Rattle.sp_frame.specs.declared.frame.TheConstants.{DOCUMENT}
use Rattle.sp_frame.specs.declared.kind.Kind.{Kind}
use Rattle.sp_frame.specs.declared.kind.Kind.TheVariants as kinds
use Rattle.sp_frame.specs.declared.probe.Probe.{Probe}
use Rattle.sp_frame.specs.declared.refused.SectionRefused.{SectionRefused}
use Rattle.sp_frame.specs.declared.refused.SectionRefused.TheVariants as refusals
use Rattle.sp_frame.proofs.GrammarLemmas.{Begins, Fit, both_fit, counted_fit, flagged_fit, joined, later_fit, limited_fit, made_fit, made_good_fit}
use Rattle.sp_frame.proofs.GrammarLemmas.{number_fit, piece_fit}
use Rattle.sp_frame.proofs.ObjectLemmas.{object_fit}

-- the same range in other words
in_other_words : {X : Type 0} {one : List ℕ → Result (X × List ℕ) SectionRefused} {spell : X → List ℕ} {IsGood IsFine : X → Type 0}
    → ((x : X) → IsGood x → IsFine x) → ((x : X) → IsFine x → IsGood x) → Fit one spell IsGood → Fit one spell IsFine
in_other_words to from fit = record {
  back = λ x rest fine. fit.back x rest (from x fine);
  read = λ bytes p are e. let r = fit.read bytes p are e in (r.0, to p.0 r.1);
}

weights_fit : (format len : ℕ) → Fit (weights format len) (weights_bytes format) (λ xs. (length xs ≤ 1) × All (IsObject format kinds.Weight len) xs)
unfolding weights weights_bytes
weights_fit format len = counted_fit 1 (lit< tt) (object_fit format kinds.Weight len)

numbered_fit : (format len : ℕ) → Fit (numbered format len) (numbered_bytes format) (IsNumbered format len)
unfolding numbered numbered_bytes
numbered_fit format len =
    in_other_words (λ m good. record { number = good.0; object = good.1 }) (λ m good. (good.number, good.object))
    (both_fit (number_fit 8) (object_fit format kinds.Prio len))

prios_fit : (format len : ℕ) → Fit (prios format len) (prios_bytes format) (λ xs. (length xs ≤ MAX_MESSAGES) × All (IsNumbered format len) xs)
unfolding prios prios_bytes
prios_fit format len = counted_fit MAX_MESSAGES (lit< tt) (numbered_fit format len)

ack_fit : (format : ℕ) (kind : Kind) (len : ℕ) → Fit (ack format kind len) (ack_bytes format) (λ x. IfSome x (IsObject format kind len))
unfolding ack ack_bytes
ack_fit format kind len = flagged_fit (object_fit format kind len)

-- the most of each kind is a byte
few : (format : ℕ) (kind : Kind) → most format kind < 256
few format kinds.Weight = lit< tt
few format kinds.Prio = lit< tt
few format kinds.Ack = lit< tt
few format kinds.Rel = go (format == FORMAT_1)
  where
    go : (b : Bool) → (if b then MAX_MESSAGES else 2) < 256
    go true = lit< tt
    go false = lit< tt
few format kinds.Kack = lit< tt
few format kinds.Krel = lit< tt
few format kinds.Epoch = lit< tt

rels_fit : (format : ℕ) (kind : Kind) (len : ℕ)
    → Fit (rels format kind len) (rels_bytes format) (λ xs. (length xs ≤ most format kind) × All (IsObject format kind len) xs)
unfolding rels rels_bytes
rels_fit format kind len = counted_fit (most format kind) (few format kind) (object_fit format kind len)

abbrev report_parts : Report → ((((((ℕ × ℕ) × ℕ) × ℕ) × ℕ) × ℕ) × Option Kept) × List Kept
report_parts r = (((((((r.flow.src.0, r.flow.dst.0), r.sboot), r.dboot), r.base), r.have), r.ack), r.rels)

report_fit : (format : ℕ) (acks messages : Kind) (len : ℕ) → Fit (report format acks messages len) (report_bytes format) (IsReport format acks messages len)
unfolding report report_bytes place_bytes
report_fit format acks messages len =
    in_other_words
    (λ r good. record {
      src = good.0.0.0.0.0.0.0;
      dst = good.0.0.0.0.0.0.1;
      sboot = good.0.0.0.0.0.1;
      dboot = good.0.0.0.0.1;
      base = good.0.0.0.1;
      have = good.0.0.1;
      ack = good.0.1;
      few = good.1.0;
      rels = good.1.1;
    })
    (λ r good. (((((((good.src, good.dst), good.sboot), good.dboot), good.base), good.have), good.ack), (good.few, good.rels)))
    (made_fit report_from report_parts (λ r. refl) (λ parts. refl)
    (both_fit (both_fit (both_fit (both_fit (both_fit (both_fit (both_fit (number_fit 1) (number_fit 1)) (number_fit (boot_bytes format)))
    (number_fit (boot_bytes format)))
    (number_fit 8)) (number_fit 8)) (ack_fit format acks len)) (rels_fit format messages len)))

slot_fit : (format len : ℕ) → Fit (slot format len) (slot_bytes format) (λ x. IfSome x (IsReport format kinds.Ack kinds.Rel len))
unfolding slot slot_bytes
slot_fit format len = flagged_fit (report_fit format kinds.Ack kinds.Rel len)

paths_fit : (format len : ℕ) → Fit (paths format len) (paths_bytes format) (λ x. IfSome x (Later format (IsReport format kinds.Kack kinds.Krel len)))
unfolding paths paths_bytes
paths_fit format len = later_fit (format == FORMAT_1) (report_fit format kinds.Kack kinds.Krel len)

abbrev probe_parts : Probe → ((ℕ × List ℕ) × ℕ) × List ℕ
probe_parts p = (((p.number, p.nonce), p.echo), p.proof)

probe_fit : Fit probe_at probe_bytes IsProbe
unfolding probe_at probe_bytes
probe_fit =
    in_other_words
    (λ p good. record { number = good.0.0.0; nonce = good.0.0.1; echo = good.0.1; proof = good.1 })
    (λ p good. (((good.number, good.nonce), good.echo), good.proof))
    (made_fit probe_from probe_parts (λ p. refl) (λ parts. refl) (both_fit (both_fit (both_fit (number_fit 8) (piece_fit 8)) (number_fit 8)) (piece_fit 32)))

probes_fit : (format : ℕ) → Fit (probes format) (probes_bytes format) (λ x. IfSome x (Later format IsProbe))
unfolding probes probes_bytes
probes_fit format = later_fit (format == FORMAT_1) probe_fit

epoch_fit : (format len : ℕ) → Fit (epoch format len) (epoch_bytes format) (λ x. IfSome x (Later format (IsObject format kinds.Epoch len)))
unfolding epoch epoch_bytes
epoch_fit format len = later_fit (format == FORMAT_1) (object_fit format kinds.Epoch len)

-- ---- without a document
abbrev contents_parts : Contents → (((((List Kept × ℕ) × List (ℕ × Kept)) × Option Report) × Option Report) × Option Probe) × Option Kept
contents_parts s = ((((((s.weights, s.prio_ack), s.prios), s.slot), s.paths), s.probe), s.epoch)

-- sections in their ranges without a document
record IsPlain (format len : ℕ) (s : Contents) : Type 0 where
  good : IsContentsIn format len s
  none : s.document ≡ None

plain_again : (s : Contents) → s.document ≡ None → contents_from (contents_parts s) ≡ s
plain_again s none = ap (λ d. record s { document = d }) (sym none)

plain_fit : (format len : ℕ) → Fit (plain_at format len) (plain_bytes format) (IsPlain format len)
unfolding plain_at plain_bytes
plain_fit format len =
    made_good_fit contents_from contents_parts (IsPlain format len) (λ s is. plain_again s is.none) (λ parts good. refl)
    (λ s is. let g = is.good in
    (((((((g.few_weights, g.weights), g.prio_ack), (g.few_prios, g.prios)), g.slot), g.paths), g.probe), g.epoch))
    (λ parts good. record {
      good = record {
        document = tt;
        few_weights = good.0.0.0.0.0.0.0;
        weights = good.0.0.0.0.0.0.1;
        prio_ack = good.0.0.0.0.0.1;
        few_prios = good.0.0.0.0.1.0;
        prios = good.0.0.0.0.1.1;
        slot = good.0.0.0.1;
        paths = good.0.0.1;
        probe = good.0.1;
        epoch = good.1;
      };
      none = refl;
    })
    (both_fit (both_fit (both_fit (both_fit (both_fit (both_fit (weights_fit format len) (number_fit 8)) (prios_fit format len)) (slot_fit format len))
    (paths_fit format len))
    (probes_fit format)) (epoch_fit format len))

-- ---- with one
sized_fit : Fit sized sized_bytes (λ bytes. length bytes < 65536)
unfolding sized sized_bytes
sized_fit = record {
  back = λ bytes rest short.
      rw (append_assoc (big_bytes 2 (length bytes)) bytes rest)
      (rw ((number_fit 2).back (length bytes) (bytes ++ rest) short) ((piece_fit (length bytes)).back bytes rest refl));
  read = λ bytes p are e.
      let s = then_ok (number 2 bytes) (λ n. piece n.0 n.1) p e in
      let f = (number_fit 2).read bytes s.0 are s.1 in
      let g = (piece_fit s.0.0).read s.0.1 p f.0.are_bytes s.2 in
      let first : Begins bytes (big_bytes 2 (length p.0)) s.0.1 = subst (λ n. Begins bytes (big_bytes 2 n) s.0.1) (sym g.1) f.0 in
      (joined bytes (big_bytes 2 (length p.0)) s.0.1 p.0 p.1 first g.0, subst (λ n. n < 65536) (sym g.1) f.1);
}

abbrev zero_parts : ℕ → ((((ℕ × ℕ) × ℕ) × ℕ) × ℕ) × ℕ
zero_parts n = (((((n, n), n), n), n), n)

none_left : (n : ℕ) → n ≤ 0 → n ≡ 0
none_left n few = omega (arith, few)

zeros_again : (x : ((((ℕ × ℕ) × ℕ) × ℕ) × ℕ) × ℕ)
    → (((((x.0.0.0.0.0 ≤ 0) × (x.0.0.0.0.1 ≤ 0)) × (x.0.0.0.1 ≤ 0)) × (x.0.0.1 ≤ 0)) × (x.0.1 ≤ 0)) × (x.1 ≤ 0) → zero_parts 0 ≡ x
zeros_again (((((a, b), c), d), e), f) good =
    rw (none_left a good.0.0.0.0.0, none_left b good.0.0.0.0.1, none_left c good.0.0.0.1, none_left d good.0.0.1, none_left e good.0.1, none_left f good.1) refl

zeros_fit : Fit zeros zeros_bytes (λ n. n ≡ 0)
unfolding zeros zeros_bytes
zeros_fit =
    made_good_fit zeros_from zero_parts (λ n. n ≡ 0) (λ n none. sym none) zeros_again
    (λ n none. let few : n ≤ 0 = omega (arith, none) in (((((few, few), few), few), few), few)) (λ x good. refl)
    (both_fit (both_fit (both_fit (both_fit (both_fit (limited_fit 8 0 (lit< tt)) (limited_fit 1 0 (lit< tt))) (limited_fit 1 0 (lit< tt)))
    (limited_fit 1 0 (lit< tt)))
    (limited_fit 1 0 (lit< tt))) (limited_fit 1 0 (lit< tt)))

-- a document alone, with room in its length
record IsAlone (s : Contents) : Type 0 where
  document : List ℕ
  is : s ≡ with_document document
  short : length document < 65536

abbrev or_none : Option (List ℕ) → List ℕ
or_none None = []
or_none (Some document) = document

abbrev document_parts : Contents → List ℕ × ℕ
document_parts s = (or_none s.document, 0)

with_none : (x : List ℕ × ℕ) → x.1 ≡ 0 → document_parts (document_from x) ≡ x
with_none (document, n) none = ap (λ k. (document, k)) (sym none)

document_fit : Fit document_at (λ s. document_bytes (or_none s.document)) IsAlone
unfolding document_at document_bytes
document_fit =
    made_good_fit document_from document_parts IsAlone (λ s alone. ap (λ t. document_from (document_parts t)) alone.is ∙ sym alone.is)
    (λ x good. with_none x good.1)
    (λ s alone. (subst (λ t. length (or_none t.document) < 65536) (sym alone.is) alone.short, refl))
    (λ x good. record { document = x.0; is = refl; short = good.0 })
    (both_fit sized_fit zeros_fit)

-- ---- either
-- sections without a document begin with a count of at most 1
first_is : (format : ℕ) (s : Contents) (rest : List ℕ) → slice_index (plain_bytes format s ++ rest) 0 ≡ length s.weights % 256
unfolding plain_bytes weights_bytes
first_is format s rest = omega arith

no_document : (format : ℕ) (s : Contents) (rest : List ℕ) → length s.weights ≤ 1 → has_document format (plain_bytes format s ++ rest) ≡ false
no_document format s rest few =
    let other : (slice_index (plain_bytes format s ++ rest) 0 == DOCUMENT) ≡ false =
    ne_eqb (slice_index (plain_bytes format s ++ rest) 0) DOCUMENT (λ same. omega (arith, same, first_is format s rest, few)) in
    rw other (and_false (not (format == FORMAT_1)))
  where
    and_false : (b : Bool) → (b && false) ≡ false
    and_false true = refl
    and_false false = refl

contents_back : (format len : ℕ) (s : Contents) (rest : List ℕ) → IsContentsIn format len s
    → sections_at_in format len (sections_bytes_in format s ++ rest) ≡ Ok (s, rest)
unfolding sections_at_in sections_bytes_in
contents_back format len s rest good = go s.document refl good.document
  where
    go : (o : Option (List ℕ)) → s.document ≡ o → IfSome o (Later format (IsDocument s))
        → (if has_document format (control_bytes format s o ++ rest) then document_at (drop 1 (control_bytes format s o ++ rest))
        else plain_at format len (control_bytes format s o ++ rest)) ≡ Ok (s, rest)
    go None none is = rw (no_document format s rest good.few_weights) ((plain_fit format len).back s rest (record { good = good; none = none }))
    go (Some document) some is =
        let shown : document_bytes (or_none s.document) ≡ document_bytes document = ap (λ o. document_bytes (or_none o)) some in
        rw is.0 (ap (λ bs. document_at (bs ++ rest)) (sym shown)
        ∙ document_fit.back s rest (record { document = document; is = is.1.alone; short = is.1.short }))

-- bytes that begin with 128
begins_so : (bytes : List ℕ) → slice_index bytes 0 ≡ DOCUMENT → bytes ≡ DOCUMENT ∷ drop 1 bytes
begins_so [] is = absurd (omega (arith, is))
begins_so (b ∷ bytes) is = ap (λ x. x ∷ bytes) is

not_first : (b : Bool) → not b ≡ true → b ≡ false
not_first true is = absurd (let wrong : false ≡ true = is in cc)
not_first false is = refl

-- a document was read
alone_read : (format len : ℕ) (bytes : List ℕ) (s : Contents) (rest : List ℕ) → (format == FORMAT_1) ≡ false → slice_index bytes 0 ≡ DOCUMENT
    → Begins (drop 1 bytes) (document_bytes (or_none s.document)) rest → IsAlone s → Begins bytes (sections_bytes_in format s) rest × IsContentsIn format len s
unfolding sections_bytes_in
alone_read format len bytes s rest second first begins alone =
    subst (λ t. Begins bytes (control_bytes format t t.document) rest × IsContentsIn format len t) (sym alone.is) (
      record {
        is = begins_so bytes first ∙ ap (λ bs. DOCUMENT ∷ bs) (begins.is ∙ ap (λ t. document_bytes (or_none t.document) ++ rest) alone.is);
        are_bytes = begins.are_bytes;
      },
      record {
        document = (second, record { short = alone.short; alone = refl });
        few_weights = omega arith;
        weights = All-nil (IsObject format kinds.Weight len);
        prio_ack = lit< tt;
        few_prios = omega arith;
        prios = All-nil (IsNumbered format len);
        slot = tt;
        paths = tt;
        probe = tt;
        epoch = tt;
      },
    )

contents_read : (format len : ℕ) (bytes : List ℕ) (p : Contents × List ℕ) → AreBytes bytes → sections_at_in format len bytes ≡ Ok p
    → Begins bytes (sections_bytes_in format p.0) p.1 × IsContentsIn format len p.0
unfolding sections_at_in sections_bytes_in
contents_read format len bytes p are e = go (has_document format bytes) refl e
  where
    go : (b : Bool) → has_document format bytes ≡ b → (if b then document_at (drop 1 bytes) else plain_at format len bytes) ≡ Ok p
        → Begins bytes (sections_bytes_in format p.0) p.1 × IsContentsIn format len p.0
    go true is e =
        let both = and_parts (not (format == FORMAT_1)) (slice_index bytes 0 == DOCUMENT) is in
        let f = document_fit.read (drop 1 bytes) p (All-drop (λ b. b < 256) 1 bytes are) e in
        alone_read format len bytes p.0 p.1 (not_first (format == FORMAT_1) both.0) (eqb-true (slice_index bytes 0) DOCUMENT both.1) f.0 f.1
    go false is e =
        let f = (plain_fit format len).read bytes p are e in
        (subst (λ o. Begins bytes (control_bytes format p.0 o) p.1) (sym f.1.none) f.0, f.1.good)

contents_fit : (format len : ℕ) → Fit (sections_at_in format len) (sections_bytes_in format) (IsContentsIn format len)
contents_fit format len = record { back = contents_back format len; read = contents_read format len }

-- ---- the whole
whole : (format len : ℕ) (bytes : List ℕ) (s : Contents) → sections_at_in format len bytes ≡ Ok (s, []) → sections_of_in format len bytes ≡ Ok s
unfolding sections_of_in
whole format len bytes s is = rw is refl

more : (format len : ℕ) (bytes : List ℕ) (s : Contents) (b : ℕ) (rest : List ℕ) → sections_at_in format len bytes ≡ Ok (s, b ∷ rest)
    → sections_of_in format len bytes ≡ Err refusals.Tail
unfolding sections_of_in
more format len bytes s b rest is =
    let some : (length (b ∷ rest) == 0) ≡ false = ne_eqb (length (b ∷ rest)) 0 (λ none. omega (arith, none)) in
    rw is (rw some refl)

pub spelled_is_read : SpelledIsRead
spelled_is_read format len s good =
    whole format len (sections_bytes_in format s) s
    (ap (sections_at_in format len) (sym (append-nil (sections_bytes_in format s))) ∙ (contents_fit format len).back s [] good)

pub tail_is_refused : TailIsRefused
tail_is_refused format len s b rest good =
    more format len (sections_bytes_in format s ++ b ∷ rest) s b rest ((contents_fit format len).back s (b ∷ rest) good)

is_whole : (format len : ℕ) (bytes : List ℕ) (found s : Contents) (rest : List ℕ)
    → Begins bytes (sections_bytes_in format found) rest × IsContentsIn format len found
    → (if length rest == 0 then Ok found else Err refusals.Tail) ≡ Ok s → (bytes ≡ sections_bytes_in format s) × IsContentsIn format len s
is_whole format len bytes found s [] front e =
    let same : found ≡ s = let f : Ok found ≡ Ok s = e in cc in
    subst (λ c. (bytes ≡ sections_bytes_in format c) × IsContentsIn format len c) same (front.0.is ∙ append-nil (sections_bytes_in format found), front.1)
is_whole format len bytes found s (b ∷ rest) front e =
    let some : (length (b ∷ rest) == 0) ≡ false = ne_eqb (length (b ∷ rest)) 0 (λ none. omega (arith, none)) in
    absurd (let f = rw some at e in cc)

pub read_is_spelled : ReadIsSpelled
unfolding sections_of_in
read_is_spelled format len bytes s are e =
    let t = then_ok (sections_at_in format len bytes) (λ found. if length found.1 == 0 then Ok found.0 else Err refusals.Tail) s e in
    is_whole format len bytes t.0.0 s t.0.1 ((contents_fit format len).read bytes t.0 are t.1) t.2
