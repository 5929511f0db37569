pub mod PowersCall
