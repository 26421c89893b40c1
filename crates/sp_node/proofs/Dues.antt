-- The acknowledgements that are due at a tick, of a plain flow and then of one on paths, are ready, and are signed in this order.
use Rattle.std.proofs.Common.{◌≡◌, ◌<◌, ◌≤◌, ◌^◌, ◌∙◌, ℕ, ◌+◌, ◌-◌, ◌==◌, if◌then◌else◌, inl, inr, Bool, true, false, List, [], ◌++◌, length, Option, None}
use Rattle.std.proofs.Common.{Some, Ok, refl, sym, ap, subst, arith}
use Rattle.std.specs.Option.{option_map}
use Rattle.laws_node.proofs.Reliable.{dated_due, due_body}
use Rattle.laws_node.specs.Nodes.{IsKept}
use Rattle.sp_base.specs.Cursor.{or_else}
use Rattle.sp_msg.specs.Bodies.{HasGoodFieldsIn}
use Rattle.sp_msg.specs.Caused.{Caused}
use Rattle.sp_msg.specs.declared.body.Ack.{Ack}
use Rattle.sp_msg.specs.declared.body.Body.{Body}
use Rattle.sp_msg.specs.declared.body.Body.TheVariants as bodies
use Rattle.sp_msg.specs.declared.effect.Effect.{Effect}
use Rattle.sp_msg.specs.declared.refused.SendRefused.{SendRefused}
use Rattle.sp_msg.specs.declared.refused.SendRefused.TheVariants as refusals
use Rattle.sp_node.specs.Calls.{Ticks}
use Rattle.sp_node.specs.Ready.{AreDue, IsDue, MaySign, first_reply, settled_both, told_both, told_of}
use Rattle.sp_node.specs.declared.tick.Due.{Due}
use Rattle.sp_node.specs.declared.tick.Due.TheVariants as dues
use Rattle.sp_node.specs.declared.tick.Dues.{Dues}
use Rattle.sp_node_format.specs.Format.{format_of}
use Rattle.sp_node_state.specs.ReadyStates.{later}
use Rattle.sp_rules.proofs.ToldLemmas.{told_both as told_twice}
use Rattle.sp_rules.specs.Kflow.{ack_body}
use Rattle.sp_rules.specs.Node.{NodeState, Signer}
use Rattle.sp_rules.specs.Parts.{Fixed, Parts, flows_of}
use Rattle.sp_rules.specs.Prio.{expired, expired_effects}
use Rattle.sp_rules.specs.Rel.{due, plain, undated}
use Rattle.sp_rules.specs.Sends.{signer_refusal}
use Rattle.sp_rules.specs.Steps.{Output, Ticked}
use Rattle.sp_rules.specs.Ticks.{ack_effects, at_time, due_now, refused_where, reply_of, settled_by, tick_reply, time_after}
use Rattle.sp_rules.specs.Told.{told}
use Rattle.sp_rules.specs.declared.kflow.FlowKind.{FlowKind}
use Rattle.sp_rules.specs.declared.kflow.FlowKind.TheVariants as kinds
use Rattle.sp_rules.specs.declared.node.TickReply.{TickReply}
use Rattle.sp_sign.specs.Blanks.{blank_in}

-- what both tell, and the reply by both
abbrev told_by : NodeState → List Effect
told_by n =
    ack_effects (format_of n.fixed) kinds.Plain (due_now kinds.Plain n) (signer_refusal n.signer)
    ++ ack_effects (format_of n.fixed) kinds.Paths (due_now kinds.Paths n) (signer_refusal (settled_both (format_of n.fixed) n).0.signer)

abbrev replied_by : NodeState → TickReply
replied_by n =
    reply_of (or_else (refused_where (due_now kinds.Plain n) (signer_refusal n.signer))
    (refused_where (due_now kinds.Paths n) (signer_refusal (settled_both (format_of n.fixed) n).0.signer)))

-- ---- the signer

with_index : NodeState → ℕ → NodeState
with_index n i = record n { signer = record n.signer { index = i } }

-- no signature comes before
pub later_none : (n : NodeState) → later 0 n ≡ n
unfolding with_index
later_none n = let same : n.signer.index + 0 ≡ n.signer.index = omega arith in ap (with_index n) same

-- an index is far below the end of its type
pub index_low : (n : NodeState) (used : ℕ) → IsKept (format_of n.fixed) n → MaySign used n → n.signer.index + used < 2 ^ 64
index_low n used kept (inl none) = omega (arith, none, kept.signer.index, kept.signer.bound, kept.signer.total)
index_low n used kept (inr one) = omega (arith, one.0, kept.signer.index, kept.signer.bound, kept.signer.total)

-- a signer that signs after some signatures signs before them
pub free_now : (n : NodeState) (used : ℕ) → MaySign used n → signer_refusal (later used n).signer ≡ None → signer_refusal n.signer ≡ None
free_now n used (inl none) free = subst (λ (m : NodeState). signer_refusal m.signer ≡ None) (ap (λ (k : ℕ). later k n) none ∙ later_none n) free
free_now n used (inr one) free = one.1

pub none_signed : (n : NodeState) → MaySign 0 n
none_signed n = inl refl

-- the second acknowledgement comes after one that is signed, or after none
pub one_signed : (n : NodeState) (d : Due) (used : ℕ) → used ≡ told_of d → IsDue kinds.Plain (later 0 n) d → MaySign used n
one_signed n dues.Nothing used is owed = inl is
one_signed n (dues.Refused reply) used is owed = inl is
one_signed n (dues.Ready blank) used is owed =
    inr (is, subst (λ (m : NodeState). signer_refusal m.signer ≡ None) (later_none n) owed.ready.free)

-- both are due
pub both_due : (n : NodeState) (d : Dues) (used : ℕ) → used ≡ told_of d.plain → IsDue kinds.Plain (later 0 n) d.plain → IsDue kinds.Paths (later used n) d.paths
    → AreDue n d
both_due n d used is first second = record {
  plain = subst (λ (m : NodeState). IsDue kinds.Plain m d.plain) (later_none n) first;
  paths = subst (λ (k : ℕ). IsDue kinds.Paths (later k n) d.paths) is second;
}

-- where none is due nothing is told
none_told : (kind : FlowKind) (n : NodeState) (d : Due) → due_now kind n ≡ None → IsDue kind n d → told_of d ≡ 0
none_told kind n dues.Nothing none is = refl
none_told kind n (dues.Refused reply) none is = refl
none_told kind n (dues.Ready blank) none is = let one = is.is_due in absurd (cc)

pub nothing_told : (n : NodeState) (d : Dues) → ((kind : FlowKind) → due_now kind n ≡ None) → AreDue n d → told_both d ≡ 0
nothing_told n d none are =
    let first = none_told kinds.Plain n d.plain (none kinds.Plain) are.plain in
    let second = none_told kinds.Paths (later (told_of d.plain) n) d.paths (none kinds.Paths) are.paths in
    omega (arith, first, second)

-- ---- one acknowledgement

-- under whatever boots, it is the one that its flow owes
pub owed_by : (kind : FlowKind) (n : NodeState) (ack : Ack) (body : Body) → due_now kind n ≡ Some ack → body ≡ ack_body kind ack
    → option_map bodies.Ack (due (flows_of kind n.parts)) ≡ Some (plain body)
owed_by kind n ack body e is =
    let d = dated_due kind n ack e in
    due_body kind (flows_of kind n.parts) d.raw ack body d.is_due (ap undated d.is) is

-- what it tells is counted
pub told_length : (kind : FlowKind) (n : NodeState) (d : Due) → IsDue kind n d
    → length (ack_effects (format_of n.fixed) kind (due_now kind n) (signer_refusal n.signer)) ≡ told_of d
told_length kind n dues.Nothing is = ap (λ (o : Option Ack). length (ack_effects (format_of n.fixed) kind o (signer_refusal n.signer))) is
told_length kind n (dues.Refused reply) is =
    ap (λ (o : Option Ack). length (ack_effects (format_of n.fixed) kind o (signer_refusal n.signer))) is.is_due
    ∙ ap (λ (r : Option SendRefused). length (ack_effects (format_of n.fixed) kind (Some is.ack) r)) is.refused
told_length kind n (dues.Ready blank) is =
    ap (λ (o : Option Ack). length (ack_effects (format_of n.fixed) kind o (signer_refusal n.signer))) is.is_due
    ∙ ap (λ (r : Option SendRefused). length (ack_effects (format_of n.fixed) kind (Some is.ack) r)) is.ready.free

-- ---- what a node's acknowledgements depend on

-- the signer, what is fixed, and what is due
record IsLike (kind : FlowKind) (old new : NodeState) : Type 0 where
  signer : new.signer ≡ old.signer
  fixed : new.fixed ≡ old.fixed
  due : due_now kind new ≡ due_now kind old

-- where these are as before, so is what is due
due_like : (kind : FlowKind) (old new : NodeState) (d : Due) → IsLike kind old new → IsDue kind old d → IsDue kind new d
due_like kind old new dues.Nothing like is = like.due ∙ is
due_like kind old new (dues.Refused reply) like is = record {
  ack = is.ack;
  refusal = is.refusal;
  is_due = like.due ∙ is.is_due;
  refused = ap signer_refusal like.signer ∙ is.refused;
  reply_is = is.reply_is;
}
due_like kind old new (dues.Ready blank) like is = record {
  ack = is.ack;
  is_due = like.due ∙ is.is_due;
  body = is.body;
  ready = record {
    free = ap signer_refusal like.signer ∙ is.ready.free;
    mine = is.ready.mine ∙ ap (λ (f : Fixed). f.me) (sym like.fixed);
    fields = subst (λ (f : Fixed). HasGoodFieldsIn f.topology.format blank.kept.body) (sym like.fixed) is.ready.fields;
    blank_is = subst (λ (f : Fixed). blank ≡ blank_in f.topology.format f.signature_len blank.kept.body) (sym like.fixed) is.ready.blank_is;
  };
}

-- the time changes none of it
pub due_at_time : (n m : NodeState) (now : ℕ) (d : Dues) → m ≡ at_time n now → AreDue n d → AreDue m d
due_at_time n m now d same are =
    subst (λ (x : NodeState). AreDue x d) (sym same) (record {
      plain = due_like kinds.Plain n (at_time n now) d.plain (record { signer = refl; fixed = refl; due = refl }) are.plain;
      paths = due_like kinds.Paths (later (told_of d.plain) n) (later (told_of d.plain) (at_time n now)) d.paths
          (record { signer = refl; fixed = refl; due = refl }) are.paths;
    })

-- ---- the second one after the first

abbrev first_settled : NodeState → NodeState
first_settled n = settled_by (format_of n.fixed) kinds.Plain n (due_now kinds.Plain n) (signer_refusal n.signer)

-- what the first one leaves of it
like_first : (n : NodeState) (d : Due) → IsDue kinds.Plain n d → IsLike kinds.Paths (later (told_of d) n) (first_settled n)
like_first n d is = go d is
  where
    stays : first_settled n ≡ n → IsLike kinds.Paths (later 0 n) (first_settled n)
    stays same =
        subst (λ (m : NodeState). IsLike kinds.Paths m (first_settled n)) (sym (later_none n))
        (subst (IsLike kinds.Paths n) (sym same) (record { signer = refl; fixed = refl; due = refl }))

    go : (d : Due) → IsDue kinds.Plain n d → IsLike kinds.Paths (later (told_of d) n) (first_settled n)
    go dues.Nothing is = stays (ap (λ (o : Option Ack). settled_by (format_of n.fixed) kinds.Plain n o (signer_refusal n.signer)) is)
    go (dues.Refused reply) is =
        stays (ap (λ (o : Option Ack). settled_by (format_of n.fixed) kinds.Plain n o (signer_refusal n.signer)) is.is_due
        ∙ ap (λ (r : Option SendRefused). settled_by (format_of n.fixed) kinds.Plain n (Some is.ack) r) is.refused)
    go (dues.Ready blank) is =
        subst (IsLike kinds.Paths (later 1 n))
        (sym (ap (λ (o : Option Ack). settled_by (format_of n.fixed) kinds.Plain n o (signer_refusal n.signer)) is.is_due
        ∙ ap (λ (r : Option SendRefused). settled_by (format_of n.fixed) kinds.Plain n (Some is.ack) r) is.ready.free))
        (record { signer = refl; fixed = refl; due = refl })

-- the second one is still due
pub due_second : (n mid : NodeState) (d : Dues) → mid ≡ first_settled n → AreDue n d → IsDue kinds.Paths mid d.paths
due_second n mid d same are =
    subst (λ (m : NodeState). IsDue kinds.Paths m d.paths) (sym same)
    (due_like kinds.Paths (later (told_of d.plain) n) (first_settled n) d.paths (like_first n d.plain are.plain) are.paths)

-- and there is room for what it tells
pub room_second : (n : NodeState) (d : Dues) (before mid : Caused) → AreDue n d → told_both d ≤ before.room
    → mid ≡ told before (ack_effects (format_of n.fixed) kinds.Plain (due_now kinds.Plain n) (signer_refusal n.signer)) → told_of d.paths ≤ mid.room
room_second n d before mid are room is =
    let one = told_length kinds.Plain n d.plain are.plain in
    let left : mid.room ≡ before.room - length (ack_effects (format_of n.fixed) kinds.Plain (due_now kinds.Plain n) (signer_refusal n.signer)) =
    ap (λ (c : Caused). c.room) is in
    omega (arith, room, one, left)

-- what is asked of the node after the first one, by what was due before it
by_second : {X : Type 0} (f : Fixed → Option Ack → NodeState → X) (n mid : NodeState) (d : Due) → IsDue kinds.Plain n d → mid ≡ first_settled n
    → f mid.fixed (due_now kinds.Paths mid) mid ≡ f n.fixed (due_now kinds.Paths n) (first_settled n)
by_second f n mid d is same =
    let first = first_settled n in
    let like = like_first n d is in
    ap (λ (m : NodeState). f m.fixed (due_now kinds.Paths m) m) same
    ∙ ap (λ (x : Fixed). f x (due_now kinds.Paths first) first) like.fixed
    ∙ ap (λ (o : Option Ack). f n.fixed o first) like.due

pub second_state : (n mid new : NodeState) (d : Dues) → AreDue n d → mid ≡ first_settled n
    → new ≡ settled_by (format_of mid.fixed) kinds.Paths mid (due_now kinds.Paths mid) (signer_refusal mid.signer)
    → new ≡ (settled_both (format_of n.fixed) n).1
second_state n mid new d are same is =
    is ∙ by_second (λ f o m. settled_by (format_of f) kinds.Paths m o (signer_refusal m.signer)) n mid d.plain are.plain same

pub second_told : (n mid : NodeState) (before between after : Caused) (d : Dues) → AreDue n d → mid ≡ first_settled n
    → between ≡ told before (ack_effects (format_of n.fixed) kinds.Plain (due_now kinds.Plain n) (signer_refusal n.signer))
    → after ≡ told between (ack_effects (format_of mid.fixed) kinds.Paths (due_now kinds.Paths mid) (signer_refusal mid.signer))
    → after ≡ told before (told_by n)
second_told n mid before between after d are same first second =
    let arts = format_of n.fixed in
    let plain = ack_effects arts kinds.Plain (due_now kinds.Plain n) (signer_refusal n.signer) in
    second
    ∙ ap (told between)
    (by_second (λ f o m. ack_effects (format_of f) kinds.Paths o (signer_refusal m.signer)) n mid d.plain are.plain same)
    ∙ ap (λ (c : Caused). told c (ack_effects arts kinds.Paths (due_now kinds.Paths n) (signer_refusal (first_settled n).signer))) first
    ∙ told_twice before plain (ack_effects arts kinds.Paths (due_now kinds.Paths n) (signer_refusal (first_settled n).signer))

-- ---- the reply

abbrev refusal_by : Signer → Bool → Bool → Option SendRefused
refusal_by s spent reserved = if spent then Some (refusals.Spent s.index) else if reserved then Some (refusals.NotReserved s.bound) else None

-- the first refusal is that of the signer, which its reply tells
first_refused : (ack : Option Ack) (s : Signer) (rest : Option SendRefused)
    → first_reply (reply_of (refused_where ack (signer_refusal s))) (reply_of rest) ≡ reply_of (or_else (refused_where ack (signer_refusal s)) rest)
first_refused None s rest = refl
first_refused (Some ack) s rest = go (s.index == s.total) (s.index == s.bound)
  where
    go : (spent reserved : Bool)
        → first_reply (reply_of (refusal_by s spent reserved)) (reply_of rest) ≡ reply_of (or_else (refusal_by s spent reserved) rest)
    go true reserved = refl
    go false true = refl
    go false false = refl

pub second_reply : (n mid : NodeState) (d : Dues) (first second reply : TickReply) → AreDue n d → mid ≡ first_settled n
    → first ≡ reply_of (refused_where (due_now kinds.Plain n) (signer_refusal n.signer))
    → second ≡ reply_of (refused_where (due_now kinds.Paths mid) (signer_refusal mid.signer)) → reply ≡ first_reply first second → reply ≡ replied_by n
second_reply n mid d first second reply are same one two is =
    let refusal = refused_where (due_now kinds.Paths n) (signer_refusal (first_settled n).signer) in
    is
    ∙ ap (λ (r : TickReply). first_reply r second) one
    ∙ ap (first_reply (reply_of (refused_where (due_now kinds.Plain n) (signer_refusal n.signer))))
    (two ∙ by_second (λ f o m. reply_of (refused_where o (signer_refusal m.signer))) n mid d.plain are.plain same)
    ∙ first_refused (due_now kinds.Plain n) n.signer refusal

-- ---- the tick

-- the node at a time, by what it was
abbrev timed : ℕ → NodeState → NodeState
timed time n = record n { now = time; parts = record n.parts { prio = expired n.parts.prio time } }

-- a node whose time has come, and which then signed what was due, made a tick
pub ticks_so : (n v m new : NodeState) (time now : ℕ) (parts : Parts) (none expires all : Caused) (reply : TickReply) → v ≡ n → time ≡ time_after v now
    → parts ≡ record v.parts { prio = expired v.parts.prio time } → m ≡ record v { now = time; parts = parts } → none.list ≡ []
    → expires.list ≡ none.list ++ expired_effects v.parts.prio time → all ≡ told expires (told_by m) → reply ≡ replied_by m
    → new ≡ (settled_both (format_of m.fixed) m).1 → Ticks n now (Ok (record { reply = reply; effects = all })) new
ticks_so n v m new time now parts none expires all reply viewed timely leaves is empty expiry tells replies_so settles =
    let same : m ≡ at_time n now =
    is ∙ ap (λ (p : Parts). record v { now = time; parts = p }) leaves ∙ ap (λ (t : ℕ). timed t v) timely
    ∙ ap (λ (x : NodeState). timed (time_after x now) x) viewed in
    let gone : expires.list ≡ expired_effects n.parts.prio (time_after n now) =
    expiry ∙ ap (λ (es : List Effect). es ++ expired_effects v.parts.prio time) empty ∙ ap (λ (t : ℕ). expired_effects v.parts.prio t) timely
    ∙ ap (λ (x : NodeState). expired_effects x.parts.prio (time_after x now)) viewed in
    let told_is : all.list ≡ expired_effects n.parts.prio (time_after n now) ++ told_by (at_time n now) =
    ap (λ (c : Caused). c.list) tells ∙ ap (λ (es : List Effect). es ++ told_by m) gone
    ∙ ap (λ (x : NodeState). expired_effects n.parts.prio (time_after n now) ++ told_by x) same in
    let gives : TickReply → List Effect → Output = λ r es. record { reply = Ticked r; effects = es; answered = []; adopted = None } in (
      ap (λ (r : TickReply). gives r all.list) (replies_so ∙ ap replied_by same) ∙ ap (gives (tick_reply (format_of n.fixed) n now)) told_is,
      settles ∙ ap (λ (x : NodeState). (settled_both (format_of x.fixed) x).1) same,
    )
