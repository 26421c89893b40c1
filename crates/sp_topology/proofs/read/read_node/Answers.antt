use Rattle.std.proofs.Common.{sym}
use Rattle.sp_base.proofs.NumberLemmas.{piece_read}
use Rattle.sp_topology.proofs.read.read_node.Goals as goal

pub key_fault-requires : goal.key_fault-requires
key_fault-requires c = (piece_read 60 c.u8.new.self (c.in_ok-piece.piece.now, c.take.new.self) c.in_ok-piece.ensures).count

pub copy_from_slice-requires : goal.copy_from_slice-requires
copy_from_slice-requires c = sym (piece_read 60 c.u8.new.self (c.in_ok-piece.piece.now, c.take.new.self) c.in_ok-piece.ensures).count
