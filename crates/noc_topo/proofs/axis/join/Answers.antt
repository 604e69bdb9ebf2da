use Rattle.std.proofs.Common.{◌≡◌, ℕ, ◌+◌, ◌*◌, [], ◌∷◌, get_or, sym, ap, ◌∙◌, arith}
use Rattle.noc_topo.specs.Shape.{node_at}
use Rattle.noc_topo.proofs.ShapeLemmas.{three-items}
use Rattle.noc_topo.proofs.axis.join.Goals as goal

node_at-three : (a b c x y z : ℕ) → x + a * (y + b * z) ≡ node_at (a ∷ b ∷ c ∷ []) (x ∷ y ∷ z ∷ [])
node_at-three a b c x y z = omega arith

pub returns : goal.returns
returns c =
    node_at-three _ _ (get_or c.args.sizes.now 2 0) _ _ _
    ∙ ap (λ ks. node_at ks (get_or c.args.coordinates.now 0 0 ∷ get_or c.args.coordinates.now 1 0 ∷ get_or c.args.coordinates.now 2 0 ∷ [])) (sym (three-items c.args.sizes.now c.told-sizes))
    ∙ ap (node_at c.args.sizes.now) (sym (three-items c.args.coordinates.now c.told-coordinates))
