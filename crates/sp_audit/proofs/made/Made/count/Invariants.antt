use Rattle.sp_base.specs.declared.id.NodeId.{NodeId}
use Rattle.sp_audit.proofs.MadeLemmas.{AreCounted, back_of, forth_of}
use Rattle.sp_audit.proofs.made.Made.count.Given as goal

abbrev pub invariant-hops : goal.invariant-hops
invariant-hops l = record {
  forth : (d : NodeId) → AreCounted l.fn.self.forth l.self.forth (forth_of l.path l.events d) l.place;
  back : (d : NodeId) → AreCounted l.fn.self.back l.self.back (back_of l.path l.events d) l.place;
}
