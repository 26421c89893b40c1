-- A link to a neighbour: which of its frames are fresh, and what each frame leaves.
--
-- A frame has a boot and a counter. Of a neighbour, the frames of a higher boot come after all of a lower one, and within a boot by counter.
use Rattle.std.specs.Prelude.{ℕ, ◌+◌, ◌==◌, Bool, not, ◌&&◌, ◌||◌, nat_lt, max, List, if◌then◌else◌}
use Rattle.sp_base.specs.declared.id.NodeId.{NodeId}
use Rattle.sp_frame.specs.declared.head.Head.{Head}
use Rattle.sp_rules.specs.declared.link.LinkAnswer.{LinkAnswer}
use Rattle.sp_rules.specs.declared.link.LinkAnswer.TheVariants as answers

-- me and the neighbour, my boot and the neighbour's as far as it is known, 0 before, the counter of my last frame to it,
-- the boot and counter above which its frames are fresh, and the key of the tags of both
pub record Link : Type 0 where
  pub me : NodeId
  pub peer : NodeId
  pub boot : ℕ
  pub peer_boot : ℕ
  pub sent : ℕ
  pub seen : ℕ × ℕ
  pub key : List ℕ

-- a link of which nothing was sent or heard
abbrev pub new_link : NodeId → NodeId → ℕ → List ℕ → Link
new_link me peer boot key = record { me = me; peer = peer; boot = boot; peer_boot = 0; sent = 0; seen = (0, 0); key = key }

-- the first pair comes after the second: by boot, and by counter within a boot
abbrev pub is_above : ℕ × ℕ → ℕ × ℕ → Bool
is_above p q = nat_lt q.0 p.0 || ((p.0 == q.0) && nat_lt q.1 p.1)

-- the boot and the counter of a frame: frames of one sender are in their order
abbrev pub pair_of : Head → ℕ × ℕ
pair_of h = (h.boot, h.counter)

-- the answer to a frame of this head, by whether its tag is right: the first of these tests that fails
abbrev pub link_answer : Link → Head → Bool → LinkAnswer
link_answer l h right =
    if not ((h.from.0 == l.peer.0) && (h.to.0 == l.me.0)) then answers.NotForMe
    else if not right then answers.BadTag
    else if not (h.echo == l.boot) then answers.Learned (max l.peer_boot h.boot)
    else if not (is_above (pair_of h) l.seen) then answers.Stale l.seen.0 l.seen.1
    else answers.Fresh

-- a link with another boot of the neighbour, and another frame that was seen last
abbrev pub kept : Link → ℕ → ℕ × ℕ → Link
kept l boot seen = record { me = l.me; peer = l.peer; boot = l.boot; peer_boot = boot; sent = l.sent; seen = seen; key = l.key }

-- what an answer leaves: a boot that is new makes all frames of lower ones stale
abbrev pub after_answer : Link → Head → LinkAnswer → Link
after_answer l h answers.NotForMe = l
after_answer l h answers.BadTag = l
after_answer l h (answers.Learned boot) = kept l boot (if nat_lt l.peer_boot boot then (boot, 0) else l.seen)
after_answer l h (answers.Stale boot counter) = l
after_answer l h answers.Fresh = kept l h.boot (pair_of h)

-- the link after a frame
abbrev pub after_frame : Link → Head → Bool → Link
after_frame l h right = after_answer l h (link_answer l h right)

-- the head of my next frame, under a topology of this version and format
abbrev pub next_head : Link → (topology format : ℕ) → Head
next_head l topology format = record {
  from = l.me;
  to = l.peer;
  boot = l.boot;
  echo = l.peer_boot;
  counter = l.sent + 1;
  topology = topology;
  format = format;
}

-- the link after that frame
abbrev pub advanced : Link → Link
advanced l = record { me = l.me; peer = l.peer; boot = l.boot; peer_boot = l.peer_boot; sent = l.sent + 1; seen = l.seen; key = l.key }
