use Rattle.std.proofs.Common.{ℕ, ◌≡◌, ◌∙◌, ◌++◌, [], None, length, refl, sym, ap, subst}
use Rattle.std.proofs.lemmas.List.{length-replicate}
use Rattle.tera_exchange.specs.declared.server.TheConstants.{LONGEST, PIECE}
use Rattle.tera_exchange.specs.Serving.{IsTalking, IsWaiting}
use Rattle.tera_exchange.specs.declared.server.Left.TheVariants as lefts
use Rattle.tera_exchange.proofs.ServingLemmas.{consumes_none, consumes_more, talk_begun, reading_begun, IsReading, reading_on, served_ended, served_at_end}
use Rattle.tera_exchange.proofs.server.serve.Goals as goal
use Rattle.tera_exchange.proofs.server.serve.Goals.{in-AtRest, in-Short}

pub pieces-init : goal.pieces-init
pieces-init g c = record {
  limit = c.new-frames.ensures.limit;
  read = (
    [],
    consumes_none (g.R.Read.remaining c.args.reader.now),
    reading_begun LONGEST c.args.server c.new-frames.result (g.W.Write.contents c.args.writer.now) c.new-frames.ensures.represents,
  );
  sent = c.in_ok-out.ensures;
  room = ap length (c.in_ok-piece.ensures.items_if_clones_equal (λ y e. e)) ∙ length-replicate {A = ℕ} PIECE 0;
}

pub returns-then-not-branch : goal.returns-then-not-branch
returns-then-not-branch g c =
    let start = c.args.server in
    let r0 = g.R.Read.remaining c.args.reader.now in
    let r2 = g.R.Read.remaining c.take_piece.new.reader in
    let w0 = g.W.Write.contents c.args.writer.now in
    let w1 = g.W.Write.contents c.pieces.writer in
    let before = c.pieces.invariant.read in
    let came = c.in_ok-take_piece.ensures.came in
    let end = came.3 c.if-not-branch.true in
    served_at_end LONGEST c.ended-finished.result c.pieces.short start c.pieces.server before.0 came.0 c.pieces.frames r0 r2 w0 w1
    c.requires
    (consumes_more r0 (g.R.Read.remaining c.pieces.reader) r2 before.0 came.0 before.1 came.1)
    end.0 end.1 c.ended-finished.ensures before.2

pub returns-in-Ended : goal.returns-in-Ended
returns-in-Ended g c =
    let start = c.args.server in
    let r0 = g.R.Read.remaining c.args.reader.now in
    let r2 = g.R.Read.remaining c.take_piece.new.reader in
    let w0 = g.W.Write.contents c.args.writer.now in
    let w1 = g.W.Write.contents c.pieces.writer in
    let w2 = g.W.Write.contents c.answer_all.new.writer in
    let before = c.pieces.invariant.read in
    let came = c.in_ok-take_piece.ensures.came in
    let s = c.pieces.server in
    let t = c.answer_all.new.server in
    let came_before = before.2.rest ++ came.0 in
    let held = c.take_piece.new.frames in
    let now = c.answer_all.new.frames in
    let limit : held.limit ≡ LONGEST = c.take_piece.ensures.limit ∙ c.pieces.invariant.limit in
    let answered : IsWaiting LONGEST (lefts.Ended c.in-Ended.finished) s t came_before now w1 w2 =
    subst (λ left. IsWaiting LONGEST left s t came_before now w1 w2) c.in-Ended.is
    (subst (λ n. IsTalking n None s s came_before held w1 w1 → IsWaiting n c.in_ok-finished.field-0 s t came_before now w1 w2) limit
    (c.in_ok-finished.ensures.talked s came_before w1) (talk_begun LONGEST s came_before held w1 (came.2 before.2.rest before.2.represents))) in
    served_ended LONGEST c.in-Ended.finished c.pieces.short start s t before.0 came.0 c.pieces.frames now r0 r2 w0 w1 w2
    c.requires
    (consumes_more r0 (g.R.Read.remaining c.pieces.reader) r2 before.0 came.0 before.1 came.1) before.2 answered

pub pieces-preserved : goal.pieces-preserved
pieces-preserved g c =
    let start = c.args.server in
    let r0 = g.R.Read.remaining c.args.reader.now in
    let r2 = g.R.Read.remaining c.take_piece.new.reader in
    let w0 = g.W.Write.contents c.args.writer.now in
    let w1 = g.W.Write.contents c.pieces.writer in
    let w2 = g.W.Write.contents c.answer_all.new.writer in
    let before = c.pieces.invariant.read in
    let came = c.in_ok-take_piece.ensures.came in
    let s = c.pieces.server in
    let t = c.answer_all.new.server in
    let came_before = before.2.rest ++ came.0 in
    let held = c.take_piece.new.frames in
    let now = c.answer_all.new.frames in
    let limit : held.limit ≡ LONGEST = c.take_piece.ensures.limit ∙ c.pieces.invariant.limit in
    let answered : IsWaiting LONGEST c.in_ok-finished.field-0 s t came_before now w1 w2 =
    subst (λ n. IsTalking n None s s came_before held w1 w1 → IsWaiting n c.in_ok-finished.field-0 s t came_before now w1 w2) limit
    (c.in_ok-finished.ensures.talked s came_before w1) (talk_begun LONGEST s came_before held w1 (came.2 before.2.rest before.2.represents)) in
    let on : IsReading LONGEST c.match-branch-5.short start t (before.0 ++ came.0) now w0 w2 = elim c.match-branch-5.branch [
      | in-AtRest w ↦
          subst (λ short. IsReading LONGEST short start t (before.0 ++ came.0) now w0 w2) (sym w.short-is)
          (reading_on LONGEST c.pieces.short lefts.AtRest start s t before.0 came.0 c.pieces.frames now w0 w1 w2 refl before.2
          (subst (λ left. IsWaiting LONGEST left s t came_before now w1 w2) w.in-AtRest.is answered))
      | in-Short w ↦
          subst (λ short. IsReading LONGEST short start t (before.0 ++ came.0) now w0 w2) (sym w.short-is)
          (reading_on LONGEST c.pieces.short lefts.Short start s t before.0 came.0 c.pieces.frames now w0 w1 w2 refl before.2
          (subst (λ left. IsWaiting LONGEST left s t came_before now w1 w2) w.in-Short.is answered))
    ] in
    record {
      limit = c.answer_all.ensures.limit ∙ limit;
      read = (before.0 ++ came.0, consumes_more r0 (g.R.Read.remaining c.pieces.reader) r2 before.0 came.0 before.1 came.1, on);
      sent = c.in_ok-finished.ensures.sent;
      room = c.take_piece.ensures.room ∙ c.pieces.invariant.room;
    }
