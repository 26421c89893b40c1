-- A poll: the next frame to a neighbour. It has the document where the neighbour runs under an older version, and nothing where their edge is withdrawn. Else
-- it carries what is next in turn of each part, and moves each cycle by what it carried.
use Rattle.std.specs.Prelude.{ℕ, Bool, not, ◌&&◌, List, [], ◌++◌, map, take, Option, None, if◌then◌else◌}
use Rattle.std.specs.Option.{option_map}
use Rattle.sp_base.specs.Formats.{max_rels}
use Rattle.sp_base.specs.declared.id.NodeId.{NodeId}
use Rattle.sp_frame.specs.Reliable.{Report}
use Rattle.sp_frame.specs.Sections.{Contents, with_document}
use Rattle.sp_frame.specs.Views.{as_list}
use Rattle.sp_frame.specs.declared.head.Head.{Head}
use Rattle.sp_msg.specs.declared.kept.Kept.{Kept}
use Rattle.sp_rules.specs.Arts.{Arts}
use Rattle.sp_rules.specs.Link.{advanced, next_head}
use Rattle.sp_rules.specs.Lives as lives
use Rattle.sp_rules.specs.Lives.{held_boot}
use Rattle.sp_rules.specs.Node.{NodeState, call_refusal, called, is_behind, is_shut_to, kept_or, link_in, with_link}
use Rattle.sp_rules.specs.Kflow as kflow
use Rattle.sp_rules.specs.Parts.{Fixed, Parts, is_first, place_of}
use Rattle.sp_rules.specs.Prio.{carried, next_prios, peer_in}
use Rattle.sp_rules.specs.Rel.{served, slot_for}
use Rattle.sp_rules.specs.Weights.{moved, next}
use Rattle.sp_rules.specs.declared.lives.Life.{Life}
use Rattle.sp_rules.specs.declared.store.Entry.{Entry}

abbrev pub as_message : ℕ × Entry → ℕ × Kept
as_message carried = (carried.0, carried.1.kept)

-- a report under the boots that are held of its ends, with as many messages as a frame of the format may have
abbrev pub dated : ℕ → List Life → Report → Report
dated format lives r = record r { sboot = held_boot lives r.flow.src; dboot = held_boot lives r.flow.dst; rels = take (max_rels format) r.rels }

-- ---- what is in turn

-- the slot of flows on paths. Format 1 has none
abbrev pub paths_to : Fixed → Parts → NodeId → Option Report
paths_to f p v = if is_first f then None else option_map (dated f.topology.format p.lives) (kflow.slot_for p.kflow v)

-- what a frame to a neighbour has where its edge is open
abbrev pub contents_to : Fixed → Parts → NodeId → Contents
contents_to f p v = record {
  document = None;
  weights = as_list (next p.weights (place_of f v));
  prio_ack = (peer_in p.prio v.0).heard;
  prios = map as_message (next_prios p.prio v.0);
  slot = option_map (dated f.topology.format p.lives) (slot_for p.rel v);
  paths = paths_to f p v;
  probe = None;
  epoch = lives.next p.lives p.origins (place_of f v);
}

-- the parts after it went
abbrev pub polled : Fixed → Parts → NodeId → Parts
polled f p v = record {
  weights = moved p.weights (place_of f v);
  prio = carried p.prio v.0;
  rel = served p.rel v;
  kflow = kflow.with_flows p.kflow (served p.kflow.flows v);
  lives = p.lives;
  origins = lives.moved p.lives p.origins (place_of f v);
}

-- ---- the three kinds of frame

-- nothing but zeros stands between the head and the tag
abbrev pub no_contents : Contents
no_contents = record { document = None; weights = []; prio_ack = 0; prios = []; slot = None; paths = None; probe = None; epoch = None }

-- the frame carries what is in turn
abbrev pub is_served : NodeState → NodeId → Bool
is_served n v = not (is_behind n v) && not (is_shut_to n v)

-- what the next frame to a neighbour has: a document first, nothing over a withdrawn edge, and else whose turn it is
abbrev pub contents_at : NodeState → NodeId → Contents
contents_at n v =
    if is_behind n v then with_document n.live.document
    else if is_shut_to n v then no_contents
    else contents_to n.fixed n.parts v

-- what a node keeps after a poll: turns go on where the frame had sections
abbrev pub parts_after : NodeState → NodeId → Parts
parts_after n v = if is_served n v then polled n.fixed n.parts v else n.parts

-- ---- the frame

-- of the version that the node runs under
abbrev pub head_to : NodeState → NodeId → Head
head_to n v = next_head (link_in n v) n.live.version n.fixed.topology.format

-- the bytes of the frame before its tag
abbrev pub untagged : Arts → NodeState → NodeId → List ℕ
untagged arts n v = arts.frame (head_to n v) (contents_at n v)

-- the next frame to a neighbour, with its tag
abbrev pub frame_to : Arts → NodeState → NodeId → List ℕ
frame_to arts n v = untagged arts n v ++ arts.tag (link_in n v).key (untagged arts n v)

-- the node after a poll; what is no call changes nothing
abbrev pub after_poll : NodeState → NodeId → NodeState
after_poll n v = kept_or (call_refusal n v) n (called n (with_link n v (advanced (link_in n v))) (parts_after n v))
