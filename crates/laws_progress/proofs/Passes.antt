-- A frame that is passed comes through: the node that it reaches knows the sender's boot, and, where the frame echoes its own, has seen the frame or a later
-- one.
use Rattle.laws_progress.proofs.Versions.{datagram_same}
use Rattle.std.proofs.Common.{◌≡◌, ℕ, true, false, List, Option, Some, None, refl, sym, ap, ◌∙◌}
use Rattle.std.specs.Prelude.{option_and_then}
use Rattle.std.specs.List.{list_any}
use Rattle.std.proofs.lemmas.Bool.{eqb-true}
use Rattle.sp_base.specs.declared.id.NodeId.{NodeId}
use Rattle.sp_rules.specs.Arts.{Arts}
use Rattle.sp_rules.specs.Arrivals.{link_after, before_document, document_at, read_by}
use Rattle.laws_node.proofs.Adopting.{reading}
use Rattle.sp_rules.specs.Node.{NodeState, call_refusal, is_link, kept_or, link_in}
use Rattle.sp_rules.specs.Steps.{Datagram, NodeStep, Output}
use Rattle.sp_rules.specs.declared.node.NodeRefused.{NodeRefused}
use Rattle.laws_runs.proofs.Lists.{both}
use Rattle.laws_runs.proofs.Tables.{same_node}
use Rattle.sp_runs.specs.Journals.{reply_word}
use Rattle.sp_runs.specs.Settings.{Setting}
use Rattle.sp_journal.specs.declared.entry.Reply.{Reply}
use Rattle.sp_schedule_events.specs.declared.event.Event.{Event}
use Rattle.sp_schedule_events.specs.declared.event.Event.TheVariants as events
use Rattle.sp_runs.specs.Rounds.{is_pass}
use Rattle.laws_progress.proofs.Keys.{after_peer}
use Rattle.laws_progress.proofs.Links.{put_link}
use Rattle.laws_progress.proofs.Polls.{answered}

pub pass_is : (u v : NodeId) (k : ℕ) (e : Event) → is_pass u v k e ≡ true → e ≡ events.Pass u v k
pass_is u v k (events.Pass a b c) is =
    let t = both _ _ is in
    let t2 = both _ _ t.0 in
    ap (λ z. events.Pass z b c) (same_node a u (eqb-true _ _ t2.0)) ∙ ap (λ z. events.Pass u z c) (same_node b v (eqb-true _ _ t2.1))
    ∙ ap (events.Pass u v) (eqb-true _ _ t.1)
pass_is u v k (events.Rel a b c) is = absurd (let e : false ≡ true = is in cc)
pass_is u v k (events.Prio a b c f g h) is = absurd (let e : false ≡ true = is in cc)
pass_is u v k (events.Take a b) is = absurd (let e : false ≡ true = is in cc)
pass_is u v k (events.Krel a b c f) is = absurd (let e : false ≡ true = is in cc)
pass_is u v k (events.KTake a b) is = absurd (let e : false ≡ true = is in cc)
pass_is u v k (events.TakePrio a) is = absurd (let e : false ≡ true = is in cc)
pass_is u v k (events.Tick a b) is = absurd (let e : false ≡ true = is in cc)
pass_is u v k (events.Weight a b c) is = absurd (let e : false ≡ true = is in cc)
pass_is u v k (events.Poll a b) is = absurd (let e : false ≡ true = is in cc)
pass_is u v k (events.Flip a b c f g) is = absurd (let e : false ≡ true = is in cc)
pass_is u v k (events.Inject a b c) is = absurd (let e : false ≡ true = is in cc)
pass_is u v k (events.Craft a b c f) is = absurd (let e : false ≡ true = is in cc)
pass_is u v k (events.CraftStatus a b c f g h) is = absurd (let e : false ≡ true = is in cc)
pass_is u v k (events.Start a) is = absurd (let e : false ≡ true = is in cc)
pass_is u v k (events.Publish a b) is = absurd (let e : false ≡ true = is in cc)
pass_is u v k (events.CraftDocument a b c f g) is = absurd (let e : false ≡ true = is in cc)
pass_is u v k (events.Stop a) is = absurd (let e : false ≡ true = is in cc)

-- a frame that is in its place
pub in_place : (o : Option (Option (List ℕ))) (bytes : List ℕ) → option_and_then (λ frame. frame) o ≡ Some bytes → o ≡ Some (Some bytes)
in_place None bytes e = absurd (let f : None ≡ Some bytes = e in cc)
in_place (Some frame) bytes e = ap Some e

-- a datagram that was answered, and left the version of its node, leaves its link and its parts
pub datagram_after : (arts : Arts) (x : Setting) (n : NodeState) (u : NodeId) (bytes : List ℕ) (o : Output) (m : NodeState) (k : ℕ) (reply : Reply)
    → NodeStep arts n (Datagram u bytes) o m → reply_word x k o.reply ≡ Some reply
    → m.live.version ≡ n.live.version → m ≡ before_document arts n u bytes
datagram_after arts x n u bytes o m k reply s says same =
    let free = answered x k (call_refusal n u) _ reply (ap (λ (p : Output). reply_word x k p.reply) (sym s.0) ∙ says) in
    datagram_same arts n u bytes m s.1 same ∙ ap (λ (r : Option NodeRefused). kept_or r n (before_document arts n u bytes)) free

-- one that was answered leaves what its document makes of them
pub datagram_read : (arts : Arts) (x : Setting) (n : NodeState) (u : NodeId) (bytes : List ℕ) (o : Output) (m : NodeState) (k : ℕ) (reply : Reply)
    → NodeStep arts n (Datagram u bytes) o m → reply_word x k o.reply ≡ Some reply
    → m ≡ read_by arts (before_document arts n u bytes) (document_at arts n u bytes)
datagram_read arts x n u bytes o m k reply s says =
    let free = answered x k (call_refusal n u) _ reply (ap (λ (p : Output). reply_word x k p.reply) (sym s.0) ∙ says) in
    s.1 ∙ ap (λ (r : Option NodeRefused). kept_or r n (read_by arts (before_document arts n u bytes) (document_at arts n u bytes))) free

pub datagram_link : (arts : Arts) (n m : NodeState) (u : NodeId) (bytes : List ℕ) → list_any (is_link u) n.links ≡ true
    → m ≡ read_by arts (before_document arts n u bytes) (document_at arts n u bytes) → link_in m u ≡ link_after arts n u bytes
datagram_link arts n m u bytes there is =
    let left = before_document arts n u bytes in
    ap (λ (q : NodeState). link_in q u) is
    ∙ reading arts left (document_at arts n u bytes) (λ q told. link_in q u ≡ link_in left u) refl (λ document d by reads is. refl)
    ∙ put_link n u (link_after arts n u bytes) (after_peer arts n u bytes) there
