use Rattle.scenario_lines.proofs.draft.Draft.+has_room.Given as goal

abbrev pub decreases-has_room : goal.decreases-has_room
decreases-has_room l = l.switches
