use Rattle.std.proofs.Common.{◌≡◌, ◌++◌, ◌∷◌, [], ap, arith, length, subst, sym, true}
use Rattle.std.specs.Prelude.{All, Contains}
use Rattle.std.proofs.lemmas.List.{length_push}
use Rattle.std.proofs.lemmas.List.Elements.{All-push, Contains-append_left}
use Rattle.noc_engine.specs.Shows.{has_block}
use Rattle.noc_workers.proofs.cut.filled.Goals as goal

pub loop-blocks-preserved : goal.loop-blocks-preserved
loop-blocks-preserved c =
    let blocks = c.loop-blocks.blocks.items in
    let block = c.args.block in
    let more : c.push.new.self.items ≡ c.loop-blocks.blocks.items ++ c.args.block ∷ [] = c.in_ok-push.ensures.items in
    record {
      many = omega (arith, ap length more, length_push blocks block, c.loop-blocks-test.true, c.len.ensures, c.loop-blocks.blocks.ok.0);
      own = λ tile has is. subst (All (λ b. has_block tile b ≡ true)) (sym more) (All-push (λ b. has_block tile b ≡ true) blocks block (c.loop-blocks.invariant.own tile has is) is);
      all = λ b has. subst (λ bs. Contains bs b) (sym more) (Contains-append_left blocks (block ∷ []) b (c.loop-blocks.invariant.all b has));
    }
