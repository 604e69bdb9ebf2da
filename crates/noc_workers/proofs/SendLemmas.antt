-- A worker may go to another thread.
use denote.Struct.Declared.{shape}
use denote.Param.Send.{IsSend, recorded_send, struct_send, sendable}
use Rattle.std.proofs.Crossing.{crosses}
use Rattle.rtrb.proofs.producer.Producer.TheSendSync as producer_sends
use Rattle.rtrb.proofs.consumer.Consumer.TheSendSync as consumer_sends
use Rattle.noc_engine.proofs.tile.Tile.TheSendSync as tile_sends
use Rattle.noc_engine.proofs.exchange.Told.TheSendSync as told_sends
use Rattle.noc_workers.specs.contracts.mail.Mail as mail_type
use Rattle.noc_workers.specs.contracts.post.Post as post_type
use Rattle.noc_workers.specs.contracts.worker.Worker as worker_type

pub mail-send : IsSend mail_type.the_row
mail-send = search (sendable, crosses, told_sends.the_send) depth 20

pub post-send : IsSend post_type.the_row
post-send =
    let mail = mail-send in
    let T = post_type.the_type in
    recorded_send _ T.D T.to T.to_one
    (struct_send (shape T) (search (sendable, crosses) depth 20, (search (sendable, crosses), (search (sendable, crosses, producer_sends.the_field_send) depth 20, (search (sendable, crosses, consumer_sends.the_field_send) depth 20, tt)))))

pub worker-send : IsSend worker_type.the_row
worker-send =
    let post = post-send in
    let T = worker_type.the_type in
    recorded_send _ T.D T.to T.to_one (struct_send (shape T) (tile_sends.the_field_send, (search (sendable, crosses) depth 20, (search sendable, tt))))
