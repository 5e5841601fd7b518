use Rattle.file_store.proofs.Kept.{put_keeps}
use Rattle.file_store.proofs.fail.FailAtFiles.put.Goals as goal

pub returns-in-Some-Half-clause-err : goal.returns-in-Some-Half-clause-err
returns-in-Some-Half-clause-err g c =
    put_keeps c.put-in-Some-Half.result _ _ _ _ c.put-in-Some-Half.ensures.ok c.put-in-Some-Half.ensures.err

pub returns-in-Some-After-clause-err : goal.returns-in-Some-After-clause-err
returns-in-Some-After-clause-err g c =
    put_keeps c.put-in-Some-After.result _ _ _ _ c.put-in-Some-After.ensures.ok c.put-in-Some-After.ensures.err
