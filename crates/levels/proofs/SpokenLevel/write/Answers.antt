-- The words are put where nothing is filled yet.
use Rattle.laws.proofs.Kit.{rules}
use Rattle.levels.proofs.LevelParts.{level_room, level_put}
use Rattle.levels.proofs.SpokenLevel.write.Goals as goal

pub put-requires : goal.put-requires
put-requires c = level_room c.args.self.level c.new-words.ensures c.requires

pub returns : goal.returns
returns c = level_put c.args.self.level c.new-words.ensures c.put.ensures (search rules) c.len.ensures
