use Rattle.std.proofs.Common.{◌∙◌, ◌++◌, [], ◌∷◌, map, refl, sym, ap}
use Rattle.apt_records.specs.declared.record.Record.{Record}
use Rattle.apt_records.specs.declared.record.Record.TheVariants as lines
use Rattle.apt_meaning.specs.Records.{cut_record}
use Rattle.apt_motion.specs.Acts.{contour_to}
use Rattle.apt_motion.specs.Drafts.{drawn}
use Rattle.apt_motion.proofs.Legs.{drawn_behind}
use Rattle.apt_motion.proofs.Taken.{as_much_room}
use Rattle.apt_motion.proofs.records.DraftPen.contour.Goals as goal

pub returns : goal.returns
returns c =
    let before = c.args.self.now in
    let step = c.args.step.now in
    let m = c.args.motion.now in
    let front = lines.Statement step.line step.step ∷ lines.Drive m.drive m.side m.sense ∷ lines.Check m.check m.how ∷ [] in
    let begun = c.begin_cut.new.records.items in
    let is = c.begin_cut.ensures.items ∙ ap (λ rs. rs ++ front) c.make_room.ensures.items in
    record {
      records = drawn_behind c.write_legs.new.draft.records.items before.records.items front (map (cut_record m.start.z) (drawn (contour_to m c.args.ends))) begun is c.in_ok-write_legs.ensures.records;
      rounds = c.in_ok-write_legs.ensures.rounds;
      room = λ has. c.in_ok-write_legs.ensures.room (as_much_room before.room before.records.items front begun refl is has);
    }
