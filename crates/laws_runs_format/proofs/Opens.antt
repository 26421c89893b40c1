-- A frame of each format comes through: its length, its name and its version are right, its head is read back, and so is its tag.
use Rattle.std.proofs.Common.{append_assoc, ◌≡◌, ◌≤◌, ℕ, ◌-◌, List, ◌++◌, length, take, drop, Ok, sym, subst, ap, ◌∙◌, arith}
use Rattle.std.specs.Prelude.{nat_eq}
use Rattle.std.specs.Cmp.Lexicographic.{pointwise}
use Rattle.std.proofs.Math.Seq.{drop-append_seam, take-append_seam}
use Rattle.std.proofs.lemmas.List.{length-append}
use Rattle.sp_frame.proofs.HeadLemmas.{head_is_read}
use Rattle.sp_frame.specs.Frames.{head_bytes, head_of, opened_in, tagged_part, tag_part}
use Rattle.sp_frame.specs.Ranges.{IsContentsIn, IsHead}
use Rattle.sp_frame.specs.Sections.{Contents, sections_bytes_in, with_document}
use Rattle.sp_frame.specs.declared.head.Head.{Head}
use Rattle.sp_hmac.proofs.Lengths.{length-hmac}
use Rattle.sp_hmac.specs.Hmac.{hmac}
use Rattle.sp_hss.specs.KeyTree.{signature_len}
use Rattle.sp_node_format.proofs.PolledFrames.{document_len, most_sections, read_back, sections_len, signatures_are_short}
use Rattle.sp_node_format.specs.Format.{format_in}
use Rattle.sp_node_format.specs.PolledFrames.{most_signature}
use Rattle.sp_runs.specs.Scenarios.{setting_of}
use Rattle.sp_sign.specs.Heights.{param_of}
use Rattle.laws_runs.specs.Premises.{IsPlain, written}
use Rattle.laws_runs.proofs.Lists.{same_bytes}
use Rattle.laws_progress.proofs.Delivery.{acknowledgements_return, delivery_is_counted}
use Rattle.laws_progress.proofs.LifeDelivery.{acknowledgements_return_in_lives, delivery_is_counted_in_lives}
use Rattle.laws_progress.proofs.StartsTold.{starts_are_told}
use Rattle.laws_runs_format.specs.Arts.{arts_of}
use Rattle.laws_runs_format.specs.ComesThrough.{FormatComesThrough}
use Rattle.laws_runs_format.specs.Delivery.{SchedulesDeliver, SchedulesDeliverInLives, SchedulesReturn, SchedulesReturnInLives, SchedulesTellStarts}
use Rattle.laws_runs_format.proofs.Headers.{headers_fit, plain_headers_fit}
use Rattle.laws_runs_format.proofs.ReadBack.{format_carries}

-- ---- it opens

-- where a frame has room for its sections
with_room : (format len : ℕ) (h : Head) (s : Contents) (key : List ℕ) → IsHead h → h.format ≡ format → IsContentsIn format len s
    → length (sections_bytes_in h.format s) ≤ most_sections
    → (format_in format).opened (written (format_in format) h s key) ≡ Ok (written (format_in format) h s key)
with_room format len h s key range same is size =
    let bytes = written (format_in format) h s key in
    let fits = subst (λ (f : ℕ). IsContentsIn f len s) (sym same) is in
    let back = read_back len h s (hmac key (head_bytes h ++ sections_bytes_in h.format s)) size range fits
    (length-hmac key (head_bytes h ++ sections_bytes_in h.format s)) in
    subst (λ (f : ℕ). opened_in f bytes ≡ Ok bytes) same back.opens

opens : (format len : ℕ) → len ≤ most_signature → (h : Head) (s : Contents) (key : List ℕ) → IsHead h → h.format ≡ format → IsPlain s
    → IsContentsIn format len s
    → (format_in format).opened (written (format_in format) h s key) ≡ Ok (written (format_in format) h s key)
opens format len small h s key range same plain is =
    let fits = subst (λ (f : ℕ). IsContentsIn f len s) (sym same) is in
    with_room format len h s key range same is
    (sections_len h.format len small s (record { document = plain.document; probe = plain.probe }) fits)

-- ---- its tag

pub front : (body tag : List ℕ) → length tag ≡ 32 → tagged_part (body ++ tag) ≡ body
front body tag long =
    let all : length (body ++ tag) - 32 ≡ length body = omega (arith, length-append body tag, long) in
    ap (λ n. take n (body ++ tag)) all ∙ take-append_seam body tag

back : (body tag : List ℕ) → length tag ≡ 32 → tag_part (body ++ tag) ≡ tag
back body tag long =
    let all : length (body ++ tag) - 32 ≡ length body = omega (arith, length-append body tag, long) in
    ap (λ n. drop n (body ++ tag)) all ∙ drop-append_seam body tag

-- ---- all of it

pub format_comes_through : FormatComesThrough
format_comes_through format height = record {
  carries = format_carries format;
  opens = λ h s key range same plain is good. opens format (signature_len (param_of height)) (signatures_are_short height) h s key range same plain is;
  documents_open = λ h document key range same is fits.
      with_room format (signature_len (param_of height)) h (with_document document) key range same is (document_len h.format document fits.1);
  heads = λ h s key is.
      let sections = sections_bytes_in h.format s in
      let tag = hmac key (head_bytes h ++ sections) in
      ap head_of (append_assoc (head_bytes h) sections tag) ∙ head_is_read h (sections ++ tag) is;
  tags_are_right = λ h s key.
      let body = head_bytes h ++ sections_bytes_in h.format s in
      let tag = hmac key body in
      let long = length-hmac key body in
      ap (λ t. pointwise nat_eq t (hmac key (tagged_part (body ++ tag)))) (back body tag long)
      ∙ ap (λ b. pointwise nat_eq tag (hmac key b)) (front body tag long) ∙ same_bytes tag;
}

pub schedules_deliver : SchedulesDeliver
schedules_deliver s good plain some =
    let x = setting_of s in
    delivery_is_counted (arts_of x) x (plain_headers_fit s good plain) (format_comes_through x.topology.format s.height) some

pub schedules_return : SchedulesReturn
schedules_return s good plain some =
    let x = setting_of s in
    acknowledgements_return (arts_of x) x (plain_headers_fit s good plain) (format_comes_through x.topology.format s.height) some

-- ---- where nodes start and stop

pub schedules_tell_starts : SchedulesTellStarts
schedules_tell_starts s good epochs =
    let x = setting_of s in starts_are_told (arts_of x) x (headers_fit s good) (format_comes_through x.topology.format s.height) epochs

pub schedules_deliver_in_lives : SchedulesDeliverInLives
schedules_deliver_in_lives s good some =
    let x = setting_of s in delivery_is_counted_in_lives (arts_of x) x (headers_fit s good) (format_comes_through x.topology.format s.height) some

pub schedules_return_in_lives : SchedulesReturnInLives
schedules_return_in_lives s good some =
    let x = setting_of s in acknowledgements_return_in_lives (arts_of x) x (headers_fit s good) (format_comes_through x.topology.format s.height) some
