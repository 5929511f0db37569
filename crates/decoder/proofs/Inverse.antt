-- The promises about the inverse of the transform, from its laws (code's proofs/Inverse). Assumes nothing.
use Rattle.decoder.specs.Promises.{Untransforms, Transforms, Unscales}
use Rattle.code.proofs.Inverse.{untransform_transform, transform_untransform, unscale}

pub untransforms : Untransforms
untransforms p w k l t xs S C = untransform_transform p w k S.prime S.root l xs C.long C.words

pub transforms : Transforms
transforms p w k l t xs S C = transform_untransform p w k S.prime S.root l xs C.long C.words

pub unscales : Unscales
unscales p w k l t xs S C = unscale p w k S.prime S.root l xs C.words
