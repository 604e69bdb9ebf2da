use Rattle.noc_topo.specs.Shape.{local_port}
use Rattle.noc_router.proofs.CommitLemmas.{ArePut}
use Rattle.noc_router.proofs.router.Router.put_all.Given as goal

-- the beats of the ports so far are put
abbrev pub invariant-loop-port : goal.invariant-loop-port
invariant-loop-port l = ArePut l.fn.self l.self (local_port l.fn.self.site.grid) l.port l.beats
