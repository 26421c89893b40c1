-- What comes to a correct node from a correct neighbour in a clean run: nothing that counts, or one of its frames.
use Rattle.std.proofs.Common.{◌≡◌, ◌⊎◌, ℕ, ◌+◌, true, false, List, [], Option, Some, Result, Ok, Err, refl, sym, ap, ◌∙◌, inl, inr, Bool}
use Rattle.std.specs.Prelude.{slice_get, unwrap_or}
use Rattle.std.proofs.lemmas.Bool.{cases_Bool}
use Rattle.sp_base.specs.declared.id.NodeId.{NodeId}
use Rattle.sp_frame.specs.declared.head.Head.{Head}
use Rattle.sp_frame.specs.declared.refused.FrameRefused.{FrameRefused}
use Rattle.sp_frame.specs.declared.refused.FrameRefused.TheVariants as frames
use Rattle.sp_rules.specs.Arts.{Arts, is_right}
use Rattle.sp_rules.proofs.ArrivalLemmas.{link_stays, link_with, of_frame, of_link}
use Rattle.sp_rules.specs.Arrivals.{link_after, not_taken, pieces_where, reply_at, sections_in}
use Rattle.sp_rules.specs.Link.{Link, after_answer, link_answer}
use Rattle.sp_rules.specs.Node.{NodeState, extended, link_in, is_shut_to}
use Rattle.sp_rules.specs.Parts.{Fixed}
use Rattle.sp_rules.specs.Pieces.{Piece}
use Rattle.sp_rules.specs.Steps.{Datagram}
use Rattle.sp_rules.specs.declared.link.LinkAnswer.{LinkAnswer}
use Rattle.sp_rules.specs.declared.link.LinkAnswer.TheVariants as answers
use Rattle.sp_rules.specs.declared.node.LinkReply.{LinkReply}
use Rattle.sp_rules.specs.declared.node.LinkReply.TheVariants as replies
use Rattle.laws_runs.proofs.Ready.{Readied, ready_frames}
use Rattle.laws_runs.proofs.Signed.{signs}
use Rattle.sp_runs.specs.Forgery.{has_forged_tag, is_tagged}
use Rattle.sp_runs.specs.Lives.{ready}
use Rattle.sp_runs.specs.Runs.{Clean}
use Rattle.sp_runs.specs.Settings.{Setting, SettingFits}
use Rattle.sp_runs.specs.Worlds.{World, frames_in, node_in}
use Rattle.sp_journal.specs.declared.entry.Entry.{Entry}
use Rattle.sp_schedule_events.specs.declared.event.Event.{Event}
use Rattle.laws_runs.specs.Premises.{ComesThrough}
use Rattle.laws_progress.proofs.States.{IsHop}
use Rattle.laws_progress.proofs.Becomes.{readied_keeps}
use Rattle.laws_progress.proofs.Framed.{Came, Framed, Learns, Taken, Too_late, came, framed, tagged_at}
use Rattle.sp_rules.specs.Arrivals as arrivals
use Rattle.laws_progress.proofs.Heads.{Placed, heads_are}
use Rattle.laws_progress.proofs.Known.{is_made, tagged_fresh}
use Rattle.laws_progress.proofs.Origins.{Origin, origin}

-- a datagram that isn't tagged leaves the link, and no piece of it is handled
pub record Untold (arts : Arts) (n : NodeState) (u : NodeId) (bytes : List ℕ) : Type 0 where
  pub link : link_after arts n u bytes ≡ link_in n u
  pub pieces : (ps : List Piece) → pieces_where (reply_at arts n u bytes) ps ≡ []

untold_answer : (l : Link) (h : Head) (a : LinkAnswer) (after : Option LinkReply) → is_tagged (unwrap_or after replies.Fresh) ≡ true
    → is_tagged (of_link a after) ≡ false
    → (after_answer l h a ≡ l) × ((ps : List Piece) → pieces_where (of_link a after) ps ≡ [])
untold_answer l h answers.NotForMe after fresh off = (refl, λ ps. refl)
untold_answer l h answers.BadTag after fresh off = (refl, λ ps. refl)
untold_answer l h (answers.Learned boot) after fresh off = absurd (let e : true ≡ false = off in cc)
untold_answer l h (answers.Stale boot counter) after fresh off = absurd (let e : true ≡ false = off in cc)
untold_answer l h answers.Fresh after fresh off = absurd (let e : true ≡ false = sym fresh ∙ off in cc)

no_pieces : (arts : Arts) (f : Fixed) (version : ℕ) (shut : Bool) (l : Link) (bytes : List ℕ) (r : FrameRefused) (ps : List Piece)
    → pieces_where (of_frame arts f version shut l bytes (Err r)) ps ≡ []
no_pieces arts f version shut l bytes frames.TooLong ps = refl
no_pieces arts f version shut l bytes (frames.Short short) ps = refl
no_pieces arts f version shut l bytes frames.Magic ps = refl
no_pieces arts f version shut l bytes frames.Version ps = refl

untold : (arts : Arts) (n : NodeState) (u : NodeId) (bytes : List ℕ) → is_tagged (reply_at arts n u bytes) ≡ false → Untold arts n u bytes
untold arts n u bytes off = let g = go (arts.opened bytes) off in record { link = g.0; pieces = g.1 }
  where
    says : Result (List ℕ) FrameRefused → LinkReply
    says o = of_frame arts n.fixed n.live.version (is_shut_to n u) (link_in n u) bytes o

    go : (o : Result (List ℕ) FrameRefused) → is_tagged (says o) ≡ false
        → (link_with arts (link_in n u) bytes o ≡ link_in n u) × ((ps : List Piece) → pieces_where (says o) ps ≡ [])
    go (Err refused) off = (link_stays arts (link_in n u) bytes refused, no_pieces arts n.fixed n.live.version (is_shut_to n u) (link_in n u) bytes refused)
    go (Ok frame) off =
        let l = link_in n u in
        let h = arts.head bytes in
        untold_answer l h (link_answer l h (is_right arts l.key bytes))
        (not_taken n.live.version h.topology (arts.is_document bytes) (sections_in arts n.fixed bytes) (is_shut_to n u))
        (tagged_fresh n.live.version h.topology (arts.is_document bytes) (sections_in arts n.fixed bytes) (is_shut_to n u)) off

-- frame k + 1 of u came to v, which is n
pub record Arrived (arts : Arts) (x : Setting) (es : List Event) (w : World) (u v : NodeId) (n : NodeState) (bytes : List ℕ) (k : ℕ) : Type 0 where
  pub there : slice_get (frames_in w.directions u v) k ≡ Some (Some bytes)
  pub from : Origin arts x es u v (k + 1) bytes
  pub framed : Framed arts x u v from.node bytes
  pub placed : Placed x es w u v k (arts.head bytes)
  pub came : Came arts n u bytes
  pub tagged : arrivals.is_tagged (arrivals.link_says arts (link_in n u) bytes) ≡ true

pub frame_arrived : (arts : Arts) (x : Setting) (es : List Event) (js : List Entry) (w : World) → SettingFits arts x
    → ComesThrough x.topology.format arts x.signature_len → Clean arts x es js w
    → (u v : NodeId) → IsHop x u v → (n : NodeState) → node_in w.nodes v ≡ Some n → (k : ℕ) (bytes : List ℕ)
    → slice_get (frames_in w.directions u v) k ≡ Some (Some bytes) → Arrived arts x es w u v n bytes k
frame_arrived arts x es js w fits reads run u v hop n at k bytes there =
    let o = origin arts x es js w run u v k bytes there in
    let f = framed arts x fits reads es u v (k + 1) hop.joined bytes o in
    record {
      there = there;
      from = o;
      framed = f;
      placed = heads_are arts x es js w fits reads.carries reads.heads run u v hop.joined k bytes there;
      came = came arts x es js w fits reads run u v hop n at o.node bytes f;
      tagged = tagged_at arts x es js w fits reads run u v hop n at o.node bytes f;
    }

-- a node meets it the same where it reserved more indexes
pub extended_came : (arts : Arts) (b : NodeState) (upto : ℕ) (u : NodeId) (bytes : List ℕ) → Came arts b u bytes → Came arts (extended b upto) u bytes
extended_came arts b upto u bytes (Learns off left reply) = Learns off left reply
extended_came arts b upto u bytes (Too_late on below left reply) = Too_late on below left reply
extended_came arts b upto u bytes (Taken on above left reply) = Taken on above left reply

pub extended_arrived : (arts : Arts) (x : Setting) (es : List Event) (w : World) (u v : NodeId) (b : NodeState) (upto : ℕ) (bytes : List ℕ) (k : ℕ)
    → Arrived arts x es w u v b bytes k → Arrived arts x es w u v (extended b upto) bytes k
extended_arrived arts x es w u v b upto bytes k h =
    record { there = h.there; from = h.from; framed = h.framed; placed = h.placed; came = extended_came arts b upto u bytes h.came; tagged = h.tagged }

-- what comes to a node of the world in which it acts, it meets as it was
pub arrives : (arts : Arts) (x : Setting) (es : List Event) (js : List Entry) (w : World) (e : Event) → SettingFits arts x
    → ComesThrough x.topology.format arts x.signature_len → Clean arts x es js w
    → (u v : NodeId) → IsHop x u v → (b n : NodeState) → node_in w.nodes v ≡ Some b → Readied x w b n → (bytes : List ℕ)
    → has_forged_tag arts x (ready x w e) n (Datagram u bytes) ≡ false
    → Untold arts n u bytes ⊎ ((k : ℕ) × Arrived arts x es w u v n bytes k)
arrives arts x es js w e fits reads run u v hop b n at readied bytes none = elim (cases_Bool (is_tagged (reply_at arts n u bytes))) [
  | inr off ↦ inl (untold arts n u bytes off)
  | inl on ↦
      let made = is_made arts x (ready x w e) n u bytes hop.first none on in
      let me : n.fixed.me ≡ v =
      readied_keeps x w b n (λ m. m.fixed.me ≡ v) (λ upto same. same) readied
      (ap (λ (f : Fixed). f.me) ((signs arts x es js w fits reads.carries run).nodes v b at).fixed) in
      let there : slice_get (frames_in w.directions u v) made.0 ≡ Some (Some bytes) =
      ap (λ ds. slice_get (frames_in ds u v) made.0) (sym (ready_frames x w e))
      ∙ ap (λ z. slice_get (frames_in (ready x w e).directions u z) made.0) (sym me) ∙ made.1 in
      let a = frame_arrived arts x es js w fits reads run u v hop b at made.0 bytes there in
      inr (
        made.0,
        readied_keeps x w b n (λ m. Arrived arts x es w u v m bytes made.0)
            (λ upto h. extended_arrived arts x es w u v b upto bytes made.0 h) readied a,
      )
]
