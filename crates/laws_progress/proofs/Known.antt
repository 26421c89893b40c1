-- What a datagram leaves of what a node knows of a neighbour: its boot, and the boot and the counter of its last frame.
use Rattle.sp_base.specs.Cursor.{or_else}
use Rattle.std.proofs.Common.{◌≡◌, ◌≤◌, ℕ, suc, ◌==◌, ◌&&◌, Bool, true, false, List, [], ◌∷◌, Some, Result, Ok, Err, refl, ap, ◌∙◌, inl, inr, arith, Option}
use Rattle.std.proofs.Common.{None, cond, sym, nat_lt, ltb-false, ltb-true, eqb-true}
use Rattle.std.specs.Prelude.{max, nat_eq, not, option_map, slice_get, unwrap_or, is_none}
use Rattle.std.specs.Result.{result_err}
use Rattle.std.specs.Cmp.Lexicographic.{pointwise}
use Rattle.std.proofs.lemmas.Bool.{cases_Bool}
use Rattle.sp_base.specs.declared.id.NodeId.{NodeId}
use Rattle.sp_frame.specs.declared.head.Head.{Head}
use Rattle.sp_frame.specs.Sections.{Contents}
use Rattle.sp_frame.specs.declared.refused.FrameRefused.{FrameRefused}
use Rattle.sp_frame.specs.declared.refused.SectionRefused.{SectionRefused}
use Rattle.sp_rules.specs.Arts.{Arts, is_right}
use Rattle.sp_rules.proofs.ArrivalLemmas.{link_stays, link_with, of_frame, of_fresh, of_link}
use Rattle.sp_rules.specs.Arrivals.{link_after, reply_at, sections_in, document_in, not_open}
use Rattle.sp_rules.specs.Link.{Link, after_answer, is_above, link_answer, pair_of}
use Rattle.sp_rules.specs.Node.{NodeState, link_in, is_shut_to}
use Rattle.sp_rules.specs.declared.link.LinkAnswer.{LinkAnswer}
use Rattle.sp_rules.specs.declared.link.LinkAnswer.TheVariants as answers
use Rattle.sp_rules.specs.declared.node.LinkReply.{LinkReply}
use Rattle.sp_rules.specs.declared.node.LinkReply.TheVariants as replies
use Rattle.laws_runs.proofs.Lists.{are_same}
use Rattle.sp_runs.specs.Forgery as forgery
use Rattle.sp_runs.specs.Forgery.{has_forged_tag, is_tagged}
use Rattle.sp_runs.specs.Settings.{Setting, is_correct}
use Rattle.sp_runs.specs.Worlds.{World, frames_in}
use Rattle.sp_rules.specs.Steps.{Datagram}

pub made_at : (bytes : List ℕ) (frames : List (Option (List ℕ))) → forgery.is_made bytes frames ≡ true → (k : ℕ) × (slice_get frames k ≡ Some (Some bytes))
made_at bytes [] is = absurd (let e : false ≡ true = is in cc)
made_at bytes (None ∷ frames) is = let rest = made_at bytes frames is in (suc rest.0, rest.1)
made_at bytes (Some y ∷ frames) is = elim (cases_Bool (pointwise nat_eq y bytes)) [
  | inl t ↦ (0, ap (λ frame. Some (Some frame)) (are_same y bytes t))
  | inr t ↦ let rest = made_at bytes frames (rw t at is) in (suc rest.0, rest.1)
]

-- what a datagram leaves of what is known of a neighbour: all as it was, the greater boot of both, or the boot and the counter of a frame that is above the
-- last
pub data LinkHeard (l k : Link) (h : Head) (reply : LinkReply) : Type 0 where
  Nothing : k.peer_boot ≡ l.peer_boot → k.seen ≡ l.seen → LinkHeard l k h reply
  Learns_boot : is_tagged reply ≡ true → k.peer_boot ≡ max l.peer_boot h.boot
      → k.seen ≡ cond (nat_lt l.peer_boot (max l.peer_boot h.boot)) (max l.peer_boot h.boot, 0) l.seen → LinkHeard l k h reply
  Takes : is_tagged reply ≡ true → is_above (pair_of h) l.seen ≡ true → k.peer_boot ≡ h.boot → k.seen ≡ pair_of h → LinkHeard l k h reply

pub tagged_fresh : (mine theirs : ℕ) (documents : Bool) (s : Result Contents SectionRefused) (shut : Bool)
    → is_tagged (of_fresh mine theirs documents s shut) ≡ true
tagged_fresh mine theirs documents s shut = go (not (theirs == mine) && not documents) s
  where
    shut_out : (t : Bool) → is_tagged (unwrap_or (cond t (Some replies.Withdrawn) None) replies.Fresh) ≡ true
    shut_out true = refl
    shut_out false = refl

    go : (t : Bool) (s : Result Contents SectionRefused)
        → is_tagged (unwrap_or (or_else (cond t (Some (replies.OtherTopology theirs)) (option_map replies.Section (result_err s)))
        (not_open (document_in s) shut)) replies.Fresh) ≡ true
    go true s = refl
    go false (Ok contents) = shut_out (shut && is_none contents.document)
    go false (Err refused) = refl

learned_is : (l : Link) (h : Head) (right : Bool) (boot : ℕ) → link_answer l h right ≡ answers.Learned boot → boot ≡ max l.peer_boot h.boot
learned_is l h right boot e = elim (cases_Bool (not ((h.from.0 == l.peer.0) && (h.to.0 == l.me.0)))) [
  | inl t ↦ absurd (let f : answers.NotForMe ≡ answers.Learned boot = rw t at e in cc)
  | inr t ↦ elim (cases_Bool (not right)) [
    | inl r ↦ absurd (let f : answers.BadTag ≡ answers.Learned boot = rw (t, r) at e in cc)
    | inr r ↦ elim (cases_Bool (not (h.echo == l.boot))) [
      | inl z ↦ let f : answers.Learned (max l.peer_boot h.boot) ≡ answers.Learned boot = rw (t, r, z) at e in cc
      | inr z ↦ elim (cases_Bool (not (is_above (pair_of h) l.seen))) [
        | inl y ↦ absurd (let f : answers.Stale l.seen.0 l.seen.1 ≡ answers.Learned boot = rw (t, r, z, y) at e in cc)
        | inr y ↦ absurd (let f : answers.Fresh ≡ answers.Learned boot = rw (t, r, z, y) at e in cc)
      ]
    ]
  ]
]

fresh_is : (l : Link) (h : Head) (right : Bool) → link_answer l h right ≡ answers.Fresh → is_above (pair_of h) l.seen ≡ true
fresh_is l h right e = elim (cases_Bool (not ((h.from.0 == l.peer.0) && (h.to.0 == l.me.0)))) [
  | inl t ↦ absurd (let f : answers.NotForMe ≡ answers.Fresh = rw t at e in cc)
  | inr t ↦ elim (cases_Bool (not right)) [
    | inl r ↦ absurd (let f : answers.BadTag ≡ answers.Fresh = rw (t, r) at e in cc)
    | inr r ↦ elim (cases_Bool (not (h.echo == l.boot))) [
      | inl z ↦ absurd (let f : answers.Learned (max l.peer_boot h.boot) ≡ answers.Fresh = rw (t, r, z) at e in cc)
      | inr z ↦ elim (cases_Bool (is_above (pair_of h) l.seen)) [
        | inl y ↦ y
        | inr y ↦ absurd (let f : answers.Stale l.seen.0 l.seen.1 ≡ answers.Fresh = rw (t, r, z, y) at e in cc)
      ]
    ]
  ]
]

heard_link : (l : Link) (h : Head) (right : Bool) (a : LinkAnswer) (after : Option LinkReply) → link_answer l h right ≡ a
    → is_tagged (unwrap_or after replies.Fresh) ≡ true → LinkHeard l (after_answer l h a) h (of_link a after)
heard_link l h right answers.NotForMe after e fresh = Nothing refl refl
heard_link l h right answers.BadTag after e fresh = Nothing refl refl
heard_link l h right (answers.Learned boot) after e fresh =
    let is = learned_is l h right boot e in
    Learns_boot refl is (ap (λ (b : ℕ). cond (nat_lt l.peer_boot b) (b, 0) l.seen) is)
heard_link l h right (answers.Stale boot counter) after e fresh = Nothing refl refl
heard_link l h right answers.Fresh after e fresh = Takes fresh (fresh_is l h right e) refl refl

pub after_is : (arts : Arts) (n : NodeState) (v : NodeId) (bytes : List ℕ)
    → LinkHeard (link_in n v) (link_after arts n v bytes) (arts.head bytes) (reply_at arts n v bytes)
after_is arts n v bytes = go (arts.opened bytes)
  where
    go : (o : Result (List ℕ) FrameRefused) → LinkHeard (link_in n v) (link_with arts (link_in n v) bytes o) (arts.head bytes)
        (of_frame arts n.fixed n.live.version (is_shut_to n v) (link_in n v) bytes o)
    go (Err refused) =
        Nothing (ap (λ (l : Link). l.peer_boot) (link_stays arts (link_in n v) bytes refused))
        (ap (λ (l : Link). l.seen) (link_stays arts (link_in n v) bytes refused))
    go (Ok frame) =
        let l = link_in n v in
        let right = is_right arts l.key bytes in
        heard_link l (arts.head bytes) right (link_answer l (arts.head bytes) right) _ refl
        (tagged_fresh n.live.version (arts.head bytes).topology (arts.is_document bytes) (sections_in arts n.fixed bytes) (is_shut_to n v))

-- the pair above which frames are fresh is of the boot that is known, which never falls
pub above_boot : (h : Head) (l : Link) → l.seen.0 ≡ l.peer_boot → is_above (pair_of h) l.seen ≡ true → l.peer_boot ≤ h.boot
above_boot h l s above = elim (cases_Bool (nat_lt l.seen.0 h.boot)) [
  | inl t ↦ let lt = ltb-true l.seen.0 h.boot t in omega (arith, lt, s)
  | inr t ↦ let same = eqb-true h.boot l.seen.0 (first_true (h.boot == l.seen.0) (nat_lt l.seen.1 h.counter) (rw t at above)) in omega (arith, same, s)
]
  where
    first_true : (a b : Bool) → a && b ≡ true → a ≡ true
    first_true true b e = refl
    first_true false b e = absurd (let f : false ≡ true = e in cc)

pub known_rises : (l k : Link) (h : Head) (reply : LinkReply) → l.seen.0 ≡ l.peer_boot → LinkHeard l k h reply
    → (k.seen.0 ≡ k.peer_boot) × (l.peer_boot ≤ k.peer_boot)
known_rises l k h reply s (Nothing boot seen) = (ap (λ (p : ℕ × ℕ). p.0) seen ∙ s ∙ sym boot, omega (arith, boot))
known_rises l k h reply s (Learns_boot tagged boot seen) = (
  ap (λ (p : ℕ × ℕ). p.0) seen ∙ go (nat_lt l.peer_boot (max l.peer_boot h.boot)) refl ∙ sym boot,
  omega (arith, boot),
)
  where
    go : (t : Bool) → nat_lt l.peer_boot (max l.peer_boot h.boot) ≡ t → (cond t (max l.peer_boot h.boot, 0) l.seen).0 ≡ max l.peer_boot h.boot
    go true e = refl
    go false e = let low = ltb-false l.peer_boot (max l.peer_boot h.boot) e in omega (arith, low, s)
known_rises l k h reply s (Takes tagged above boot seen) = (
  ap (λ (p : ℕ × ℕ). p.0) seen ∙ sym boot,
  let up = above_boot h l s above in omega (arith, up, boot),
)

-- a tagged datagram of a correct neighbour, not forged, is one of its frames
pub is_made : (arts : Arts) (x : Setting) (w : World) (n : NodeState) (u : NodeId) (bytes : List ℕ) → is_correct x u ≡ true
    → has_forged_tag arts x w n (Datagram u bytes) ≡ false
    → is_tagged (reply_at arts n u bytes) ≡ true → (k : ℕ) × (slice_get (frames_in w.directions u n.fixed.me) k ≡ Some (Some bytes))
is_made arts x w n u bytes correct none tagged =
    made_at bytes (frames_in w.directions u n.fixed.me) (lemma (forgery.is_made bytes (frames_in w.directions u n.fixed.me)) (rw (correct, tagged) at none))
  where
    lemma : (t : Bool) → not t ≡ false → t ≡ true
    lemma true e = refl
    lemma false e = absurd (let f : true ≡ false = e in cc)
