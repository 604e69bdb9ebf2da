use Rattle.std.proofs.Common.{◌≡◌, ◌/◌, ◌%◌, ℕ, get_or, set, ap, ◌∙◌, arith, below_more, get_or-set_same, get_or-set_other}
use Rattle.std.specs.Prelude.{◌&&◌, nat_lt}
use Rattle.noc_packet.specs.Set.{has_bit}
use Rattle.noc_route.specs.Entered.{routing_in}
use Rattle.noc_route.specs.Relation.{is_led}
use Rattle.noc_route.specs.Routes.{width, page_class, page_router, page_dst}
use Rattle.noc_route.proofs.enter.enter_named.Goals as goal

pub loop-page-preserved : goal.loop-page-preserved
loop-page-preserved c = λ b k l.
    let f = c.args.fitting.now.map.now.sizes in
    let led = λ (m r t k : ℕ). nat_lt k (width f.shape f.vcs) && is_led (routing_in f c.args.fitting.now.rule.now) m r t (k / f.vcs) (k % f.vcs) in
    let sets = c.loop-page.sets in
    let page = c.loop-page.page in
    let value = c.named_set.result in
    below_more (λ b. has_bit (get_or (set sets page value) b 0) k ≡ led (page_class f.shape f.classes b) (page_router f.shape f.classes b) (page_dst f.shape b) k) page
    (λ b l. ap (λ s. has_bit s k) (get_or-set_other sets page b value 0 (λ e. omega arith)) ∙ c.loop-page.invariant b k l)
    (ap (λ s. has_bit s k) (get_or-set_same sets page value 0 (omega (arith, c.loop-page-test.true, c.loop-page.auto.sets, c.loop-page.auto.page-end)))
    ∙ c.named_set.ensures k
    ∙ ap (λ x. led x c.page_parts-class.result.1 c.page_parts-class.result.2 k) c.page_parts-class.ensures.class
    ∙ ap (λ x. led (page_class f.shape f.classes page) x c.page_parts-class.result.2 k) c.page_parts-class.ensures.router
    ∙ ap (λ x. led (page_class f.shape f.classes page) (page_router f.shape f.classes page) x k) c.page_parts-class.ensures.dst)
    b l
