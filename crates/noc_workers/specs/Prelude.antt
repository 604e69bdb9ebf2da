-- The names that clauses of this crate cite, passed on from one place. It declares nothing.
pub use Rattle.noc_theory.specs.Good.{IsGoodSetup}
pub use Rattle.noc_theory.specs.Network.{Setup}
pub use Rattle.noc_theory.specs.declared.limits.TheConstants.{CYCLE_LIMIT}
pub use Rattle.noc_cycles.specs.Around.{end_by}
pub use Rattle.noc_engine.specs.Origins.{net_in, setup_by}
pub use Rattle.noc_engine.specs.Runs.{MayRun, ShowsRun}
pub use Rattle.noc_engine.specs.Shows.{IsPlanOf, has_block, has_router}
pub use Rattle.noc_engine.specs.Tiles.{Shows}
pub use Rattle.noc_engine.specs.declared.plan.Plan.{Plan}
pub use Rattle.noc_workers.specs.Cuts.{AllHaveRun, AllMayRun, AllShow, AreHalves, AreNew, HasAllNear, HaveRunStretch, IsNew, MayRunStretch, MeetsMore}
pub use Rattle.noc_workers.specs.Mails.{HasHeard, HasSameBlocks, IsMail, blocks_in, with_blocks}
pub use Rattle.noc_workers.specs.Rounds.{Follows, Start, start_by, start_in, start_of}
pub use Rattle.noc_workers.specs.Workers.{ArePosts, AreReady, HasCome, HasReceivedBy, HasSentBy, IsPost, IsReadyPost, IsWorkerAt, MayReceiveBy, MayRunFrom, MaySendBy, ReadyPost, ReadyPosts, SentPost, SentPosts, near_in, nears_in}
pub use Rattle.noc_workers.specs.declared.worker.Worker.{Worker}
