-- What a walk over a datagram's objects finds is what of it is forged.
use Rattle.std.proofs.Common.{◌≡◌, ◌≢◌, ℕ, Bool, List, [], ◌++◌, map, None, Result, Ok, Err, refl, sym, ap, ◌∙◌}
use Rattle.sp_base.specs.declared.id.NodeId.{NodeId}
use Rattle.sp_frame.specs.Frames.{opened_in, sections_part}
use Rattle.sp_frame.specs.Sections.{Contents, sections_of_in}
use Rattle.sp_frame.specs.declared.refused.FrameRefused.{FrameRefused}
use Rattle.sp_frame.specs.declared.refused.FrameRefused.TheVariants as frames
use Rattle.sp_frame.specs.declared.refused.SectionRefused.{SectionRefused}
use Rattle.sp_msg.specs.declared.kept.Kept.{Kept}
use Rattle.sp_rules.proofs.ArrivalLemmas.{of_frame}
use Rattle.sp_rules.specs.Arts.{Arts}
use Rattle.sp_rules.specs.Arrivals.{arrival_at, handled, parts_met, pieces_beside, pieces_in, pieces_where, reply_at, sections_in}
use Rattle.sp_rules.specs.Handle.{handle_all}
use Rattle.sp_rules.specs.Link.{Link}
use Rattle.sp_rules.specs.Node.{NodeState, is_shut_to, link_in}
use Rattle.sp_rules.specs.Parts.{Fixed}
use Rattle.sp_rules.specs.Pieces.{Piece, pieces_of}
use Rattle.sp_rules.specs.declared.answers.Item.{Item}
use Rattle.sp_rules.specs.declared.node.LinkReply.{LinkReply}
use Rattle.sp_rules.specs.declared.node.LinkReply.TheVariants as links
use Rattle.sp_runs.specs.Forgery.{forged_object}
use Rattle.sp_runs.specs.Settings.{Setting}
use Rattle.sp_journal.specs.declared.entry.Entry.{Entry}
use Rattle.sp_schedule_events.specs.declared.event.Event.{Event}
use Rattle.sp_node_format.specs.Format.{format_in}
use Rattle.sp_forgery.specs.Found.{found_at}
use Rattle.sp_forgery.specs.Turns.{forged_in_turn, handled_of}
use Rattle.laws_node.proofs.Objects.{objects_are_answered}
use Rattle.laws_node.specs.Objects.{objects_in}
use Rattle.sp_forgery.proofs.Turns.{in_turn, none_left}

same_sections : (format : ℕ) (n : NodeState) (bytes : List ℕ)
    → sections_in (format_in format) n.fixed bytes ≡ sections_of_in format n.fixed.signature_len (sections_part bytes)
same_sections format n bytes = refl

-- the pieces that a node handles
abbrev pieces_for : (epochs : Bool) → Result Contents SectionRefused → List Piece
pieces_for epochs (Ok contents) = pieces_beside contents.document (pieces_of (handled_of epochs contents))
pieces_for epochs (Err refused) = []

pieces_are_for : (epochs : Bool) (f : Fixed) (r : Result Contents SectionRefused) → f.epochs ≡ epochs → pieces_in f r ≡ pieces_for epochs r
pieces_are_for epochs f (Ok contents) same = ap (λ (e : Bool). pieces_beside contents.document (pieces_of (handled_of e contents))) same
pieces_are_for epochs f (Err refused) same = refl

-- bytes that are no frame aren't fresh
pub no_fresh : (arts : Arts) (f : Fixed) (version : ℕ) (shut : Bool) (l : Link) (bytes : List ℕ) (refused : FrameRefused)
    → of_frame arts f version shut l bytes (Err refused) ≢ links.Fresh
no_fresh arts f version shut l bytes frames.TooLong e = cc
no_fresh arts f version shut l bytes (frames.Short short) e = cc
no_fresh arts f version shut l bytes frames.Magic e = cc
no_fresh arts f version shut l bytes frames.Version e = cc

-- so bytes that were fresh are one
pub are_frame : (format : ℕ) (n : NodeState) (u : NodeId) (bytes : List ℕ) (refused : FrameRefused) → reply_at (format_in format) n u bytes ≡ links.Fresh
    → opened_in format bytes ≢ Err refused
are_frame format n u bytes refused fresh e =
    let arts = format_in format in
    no_fresh arts n.fixed n.live.version (is_shut_to n u) (link_in n u) bytes refused
    (ap (of_frame arts n.fixed n.live.version (is_shut_to n u) (link_in n u) bytes) (sym e) ∙ fresh)

module _ (x : Setting) (es : List Event) (js : List Entry) where
  abbrev format : ℕ
  format = x.topology.format

  -- those of the setting
  abbrev arts : Arts
  arts = format_in format

  found_there : (o : Result (List ℕ) FrameRefused) (r : Result Contents SectionRefused) (items : List Item) → ((refused : FrameRefused) → o ≢ Err refused)
      → found_at x es js o r items ≡ forged_in_turn x es js (objects_in (pieces_for x.epochs r)) items
  found_there (Ok frame) (Ok contents) items good = refl
  found_there (Ok frame) (Err refused) items good = sym (none_left x es js items)
  found_there (Err refused) r items good = absurd (good refused refl)

  pub fresh_is : (n : NodeState) (u : NodeId) (bytes : List ℕ) (len : ℕ) (items more : List Item) → n.fixed.signature_len ≡ len
      → n.fixed.epochs ≡ x.epochs → links.Fresh ≡ reply_at arts n u bytes
      → items ≡ map (λ a. a.1) (handled arts n u bytes).answered ++ more
      → found_at x es js (opened_in format bytes) (sections_of_in format len (sections_part bytes)) items
      ≡ forged_object arts x es js (handled arts n u bytes).answered
  fresh_is n u bytes len items more long same fresh are =
      let good : (refused : FrameRefused) → opened_in format bytes ≢ Err refused = λ refused. are_frame format n u bytes refused (sym fresh) in
      let there : found_at x es js (opened_in format bytes) (sections_of_in format len (sections_part bytes)) items
      ≡ forged_in_turn x es js (objects_in (pieces_for x.epochs (sections_of_in format len (sections_part bytes)))) items =
      found_there (opened_in format bytes) (sections_of_in format len (sections_part bytes)) items good in
      let sections = sections_in arts n.fixed bytes in
      let pieces : pieces_where (reply_at arts n u bytes) (pieces_in n.fixed sections) ≡ pieces_for x.epochs (sections_of_in format len (sections_part bytes)) =
      ap (λ (l : LinkReply). pieces_where l (pieces_in n.fixed sections)) (sym fresh)
      ∙ pieces_are_for x.epochs n.fixed sections same
      ∙ ap (pieces_for x.epochs) (same_sections format n bytes) ∙ ap (λ (k : ℕ). pieces_for x.epochs (sections_of_in format k (sections_part bytes))) long in
      let objects : map (λ a. a.0) (handled arts n u bytes).answered ≡ objects_in (pieces_for x.epochs (sections_of_in format len (sections_part bytes))) =
      objects_are_answered arts (arrival_at n u) (parts_met arts n u bytes) (pieces_where (reply_at arts n u bytes) (pieces_in n.fixed sections))
      ∙ ap objects_in pieces in
      there
      ∙ ap (λ (os : List Kept). forged_in_turn x es js os items) (sym objects)
      ∙ ap (λ (is : List Item). forged_in_turn x es js (map (λ a. a.0) (handled arts n u bytes).answered) is) are
      ∙ in_turn x es js (handled arts n u bytes).answered more

  -- nothing of another one is handled
  pub stale_is : (n : NodeState) (u : NodeId) (bytes : List ℕ) → reply_at arts n u bytes ≢ links.Fresh
      → forged_object arts x es js (handled arts n u bytes).answered ≡ None
  stale_is n u bytes other =
      ap (λ (ps : List Piece). forged_object arts x es js (handle_all arts (arrival_at n u) (parts_met arts n u bytes) ps).answered)
      (nothing (reply_at arts n u bytes) other)
    where
      nothing : (l : LinkReply) → l ≢ links.Fresh → pieces_where l (pieces_in n.fixed (sections_in arts n.fixed bytes)) ≡ []
      nothing links.TooLong apart = refl
      nothing (links.Short short) apart = refl
      nothing links.Magic apart = refl
      nothing links.Version apart = refl
      nothing links.NotForMe apart = refl
      nothing links.BadTag apart = refl
      nothing (links.Learned boot) apart = refl
      nothing (links.Stale boot counter) apart = refl
      nothing (links.OtherTopology theirs) apart = refl
      nothing (links.Section refused) apart = refl
      nothing links.Withdrawn apart = refl
      nothing links.Fresh apart = absurd (apart refl)
