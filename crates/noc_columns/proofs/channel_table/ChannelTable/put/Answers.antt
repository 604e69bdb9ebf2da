use Rattle.std.proofs.Common.{◌+◌, ◌*◌, ◌<◌, ◌∙◌, ap, sym, arith}
use Rattle.std.specs.Prelude.{◌&&◌, ◌||◌, nat_eq}
use Rattle.noc_packet.specs.Set.{has_bit}
use Rattle.noc_columns.specs.Picks.{channels_of}
use Rattle.noc_columns.specs.Words.{set_of, word}
use Rattle.noc_columns.proofs.BitLemmas.{put-set}
use Rattle.noc_columns.proofs.ChannelLemmas.{channels-apart}
use Rattle.noc_columns.proofs.LoopLemmas.{left-part}
use Rattle.noc_columns.proofs.TableLemmas.{put-all, put-next, put-none}
use Rattle.noc_columns.proofs.channel_table.ChannelTable.put.Goals as goal

pub loop-rest-init : goal.loop-rest-init
loop-rest-init c = record {
  part = λ k e. e;
  done = λ r. put-none (set_of (channels_of c.args.self.now.ports) r c.args.words.now) c.args.set (nat_eq r c.args.router);
}

pub index-requires : goal.index-requires
index-requires c = c.requires.below c.least.result (c.loop-rest.invariant.part c.least.result c.least.ensures.least.0)

pub loop-rest-preserved : goal.loop-rest-preserved
loop-rest-preserved c =
    let inv = c.loop-rest.invariant in
    let ports = c.args.self.now.ports in
    let n = channels_of ports in
    let set = c.args.set in
    let rest = c.loop-rest.rest in
    let words = c.loop-rest.words in
    let router = c.args.router in
    let t = c.least.result in
    let least = c.least.ensures.least in
    let few : t < (ports.links.width + 1) * ports.links.vcs = c.requires.below t (inv.part t least.0) in
    record {
      part = λ k e. left-part set rest t least inv.part k (ap (λ w. has_bit w k) (sym c.but_lowest-rest.ensures.members) ∙ e);
      done = λ r.
          put-set n words c.put_router.new.words t router (channels-apart ports) few r
          (λ k s. c.put_router.ensures k s ∙ ap (λ j. (nat_eq k j && nat_eq s router) || has_bit (word k words) s) c.index.ensures.is)
          ∙ put-next (nat_eq r router) (set_of n r words) (set_of n r c.args.words.now) set rest c.but_lowest-rest.result t least inv.part c.but_lowest-rest.ensures.members (inv.done r);
    }

pub returns : goal.returns
returns c = λ r. put-all (nat_eq r c.args.router) _ _ c.args.set c.loop-rest.rest (omega arith) (c.loop-rest.invariant.done r)
